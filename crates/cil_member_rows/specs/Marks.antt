-- The words of rows that are marked.
use Rattle.std.specs.Prelude.{ℕ, List, slice_index_or}
use Rattle.cil_member_rows.specs.declared.words.Words.{Words}

-- the marked words of a row; none where there is no row
abbrev pub mark_at : List Words → ℕ → Words
mark_at marks r = slice_index_or marks r (record { first = 0; end = 0 })
