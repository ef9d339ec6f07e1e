-- Places in a text.
use Rattle.std.specs.Prelude.{ℕ, ◌+◌, ◌==◌, Bool, not, List, take, count_by}
use Rattle.std.specs.List.{suffix_len}

-- A place counts bytes: the offset from 0, the line and the column from 1.
pub record Place : Type 0 where
  pub offset : ℕ
  pub line : ℕ
  pub column : ℕ

abbrev pub is_line_feed : ℕ → Bool
is_line_feed b = b == 10

-- The place of the byte at an offset. A line feed alone ends a line, and the column counts the bytes since the last one.
abbrev pub place_at : List ℕ → ℕ → Place
place_at bytes at = record {
  offset = at;
  line = 1 + count_by is_line_feed (take at bytes);
  column = 1 + suffix_len (λ b. not (is_line_feed b)) (take at bytes);
}
