-- Classes of bytes, and how a byte is written in hexadecimal.
use Rattle.std.specs.Prelude.{ℕ, Bool, not, ◌&&◌, ◌||◌, ◌==◌, ◌+◌, ◌/◌, ◌%◌, nat_le, nat_lt, List, [], ◌∷◌, if◌then◌else◌}

-- a space, a tab, a line feed or a carriage return
abbrev pub is_white : ℕ → Bool
is_white b = b == 32 || (b == 9 || (b == 10 || b == 13))

-- 0x21 to 0x7E but for the bytes " ( ) and ;
abbrev pub is_word_byte : ℕ → Bool
is_word_byte b = nat_le 33 b && (nat_le b 126 && (not (b == 34) && (not (b == 40) && (not (b == 41) && not (b == 59)))))

-- any byte but a line feed
abbrev pub is_comment_byte : ℕ → Bool
is_comment_byte b = not (b == 10)

-- any byte but " and a line feed
abbrev pub is_string_byte : ℕ → Bool
is_string_byte b = not (b == 34) && not (b == 10)

-- the bytes ; " ( and )
abbrev pub is_mark : ℕ → Bool
is_mark b = b == 59 || (b == 34 || (b == 40 || b == 41))

-- a digit of base 16, in lower case
abbrev pub hex_digit : ℕ → ℕ
hex_digit n = if nat_lt n 10 then 48 + n else 87 + n

-- a byte as two digits of base 16
abbrev pub hex : ℕ → List ℕ
hex b = hex_digit (b / 16) ∷ hex_digit (b % 16) ∷ []
