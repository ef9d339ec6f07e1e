-- Rows of bits, by words of 64.
use Rattle.std.specs.Prelude.{ℕ, List, [], length, slice_index, slice_index_or}

-- the words of a row; none where there is no row
abbrev pub row_of : List (List ℕ) → ℕ → List ℕ
row_of rows r = slice_index_or rows r []

-- how many words a row has
abbrev pub words_of : List (List ℕ) → ℕ → ℕ
words_of rows r = length (row_of rows r)

-- the bits of a word of a row; 0 behind the end
abbrev pub bits_at : List (List ℕ) → ℕ → ℕ → ℕ
bits_at rows r w = slice_index (row_of rows r) w
