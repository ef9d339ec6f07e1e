-- The kinds of statements that were taken by their names.
use Rattle.std.specs.Prelude.{ℕ, ◌==◌, if◌then◌else◌, List, [], ◌++◌, map, flat_map, codes, decimal}
use Rattle.std.specs.Borrow.{Bor}
use Rattle.cil_projection.specs.Statements.{Counts, number_of}
use Rattle.cil_projection.specs.declared.kinds.TheConstants.{KINDS}

-- A kind: the first word of its statements, and in words what they do.
pub record Kind : Type 0 where
  pub keyword : List ℕ
  pub meaning : List ℕ

-- all kinds, in their order
unfoldable pub kinds : List Kind
kinds = map (λ row. record { keyword = row.0.now; meaning = row.1.now }) KINDS

-- a kind as the code has it
abbrev pub kind_in : Bor (List ℕ) × Bor (List ℕ) → Kind
kind_in row = record { keyword = row.0.now; meaning = row.1.now }

abbrev pub line_for : ℕ → Kind → List ℕ
line_for number kind = if number == 0 then [] else decimal number ++ (codes " " ++ (kind.keyword ++ (codes ": " ++ (kind.meaning ++ codes "\n"))))

-- the line of a kind, where there are statements of it
abbrev pub kind_line : Counts → Kind → List ℕ
kind_line counts kind = line_for (number_of counts kind.keyword) kind

-- the lines of the kinds of which there are statements
abbrev pub kinds_text : Counts → List ℕ
kinds_text counts = flat_map (kind_line counts) kinds
