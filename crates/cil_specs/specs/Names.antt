-- How names are spelt, and the words that name nothing.
use Rattle.std.specs.Prelude.{ℕ, Bool, false, not, ◌&&◌, ◌||◌, ◌==◌, nat_le, List, [], ◌∷◌, length, codes, bytes_eq, Option, Some, None, if◌then◌else◌}
use Rattle.std.specs.List.{list_all, list_any, slice_split}
use Rattle.cil_specs.specs.Place.{Place}
use Rattle.cil_specs.specs.TextFault.{TextFaultKind, bad_name, reserved}

-- a word of a text, and where it stands
pub record Word : Type 0 where
  pub at : Place
  pub text : List ℕ

-- an ASCII letter
abbrev pub is_letter : ℕ → Bool
is_letter b = (nat_le 65 b && nat_le b 90) || (nat_le 97 b && nat_le b 122)

-- an ASCII digit
abbrev pub is_digit : ℕ → Bool
is_digit b = nat_le 48 b && nat_le b 57

-- a letter or _
abbrev pub begins_name : ℕ → Bool
begins_name b = is_letter b || b == 95

-- a letter, a digit, _ or -
abbrev pub is_name_byte : ℕ → Bool
is_name_byte b = begins_name b || (is_digit b || b == 45)

-- a declared name: a letter or _, then letters, digits, _ or -, at most 2048 bytes
abbrev pub is_name : List ℕ → Bool
is_name [] = false
is_name (b ∷ bytes) = begins_name b && (list_all is_name_byte bytes && nat_le (length (b ∷ bytes)) 2048)

-- what stands between the dots of a reference, but for a leading dot
abbrev pub components : List ℕ → List (List ℕ)
components [] = [] ∷ []
components (b ∷ bytes) = if b == 46 then slice_split (λ c. c == 46) bytes else slice_split (λ c. c == 46) (b ∷ bytes)

-- one or more names joined by dots, with or without a leading dot
abbrev pub is_reference : List ℕ → Bool
is_reference text = list_all is_name (components text)

-- the words that stand for no declared thing
abbrev pub reserved_words : List (List ℕ)
reserved_words = codes "self" ∷ codes "notself" ∷ codes "other" ∷ codes "all" ∷ codes "and" ∷ codes "or" ∷ codes "xor" ∷ codes "not" ∷ []

abbrev pub is_reserved : List ℕ → Bool
is_reserved name = list_any (bytes_eq name) reserved_words

-- what stands in the place of a word: a name that is declared or a permission, or a reference
pub data Role : Type 0 where
  declared : Role
  referred : Role

-- whether a word is spelt as its place asks
abbrev pub is_spelt : Role → List ℕ → Bool
is_spelt declared text = is_name text
is_spelt referred text = is_reference text

-- what is wrong with a word in such a place: its spelling, or else that it is a reserved word or has one between its dots
abbrev pub name_fault : Role → List ℕ → Option TextFaultKind
name_fault role text = if not (is_spelt role text) then Some bad_name else if list_any is_reserved (components text) then Some reserved else None
