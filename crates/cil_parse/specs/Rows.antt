-- What is made of each statement by its row and its words.
use Rattle.std.specs.Prelude.{List, [], ◌∷◌}
use Rattle.cil_parse.specs.declared.row.NumberedWord.{NumberedWord}
use Rattle.cil_parse.specs.declared.row.Row.{Row}

-- what a function makes of the row and the words of each statement
abbrev pub of_rows : {X : Type 0} → (Row → List NumberedWord → X) → List Row → List (List NumberedWord) → List X
of_rows f [] lists = []
of_rows f (row ∷ rows) [] = []
of_rows f (row ∷ rows) (words ∷ lists) = f row words ∷ of_rows f rows lists
