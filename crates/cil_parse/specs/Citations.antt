-- What the references of a module's statements look up.
use Rattle.std.specs.Prelude.{◌≡◌, ℕ, zero, suc, List, [], ◌∷◌, ◌++◌, map, Option, Some, None, slice_get}
use Rattle.cil_specs.specs.Names.{Word}
use Rattle.cil_specs.specs.Lookup as lookup
use Rattle.cil_parse.specs.Kinds.{reference_table, table_of}
use Rattle.cil_parse.specs.Rows.{of_rows}
use Rattle.cil_parse.specs.declared.citations.Citation.{Citation}
use Rattle.cil_parse.specs.declared.citations.Citations.{Citations}
use Rattle.cil_parse.specs.declared.citations.Found.{Found}
use Rattle.cil_parse.specs.declared.row.NumberedWord.{NumberedWord}
use Rattle.cil_parse.specs.declared.row.Row.{Row}
use Rattle.cil_parse.specs.declared.table.Table.{Table}

-- what a word looks up in a table from inside a block, if it is a reference, in front of others
abbrev pub with_citation : Option Table → ℕ → ℕ → List Citation → List Citation
with_citation None block text more = more
with_citation (Some table) block text more = record { table = table; block = block; text = text } ∷ more

-- what the references among the words of a statement look up, where the first word has an index
abbrev pub cited : Row → ℕ → List NumberedWord → List Citation
cited row k [] = []
cited row k (word ∷ words) =
    with_citation (reference_table row.kind k) row.around.block word.text (cited row (suc k) words)

-- for each statement what its references look up
abbrev pub citation_lists : List Row → List (List NumberedWord) → List (List Citation)
citation_lists = of_rows (λ row. cited row 0)

-- each statement has the numbers of what its references look up
abbrev pub AreCitedBy : {A : Type 0} → Citations A → List Row → List (List NumberedWord) → Type 0
AreCitedBy c rows words = map (map (slice_get c.distinct.items)) c.numbers.0 ≡ map (map Some) (citation_lists rows words)

-- the closed lists of numbers are those of what these lists have, and the open one is that of one more
pub record IsFound {A : Type 0} (f : Found A) (lists : List (List Citation)) (open_list : List Citation) : Type 0 where
  pub lists_are : map (map (slice_get f.distinct.keys)) f.numbers.0 ≡ map (map Some) lists
  pub open_list_is : map (slice_get f.distinct.keys) f.numbers.1 ≡ map Some open_list

-- the numbers of these came to the open list
abbrev pub Finds : {A : Type 0} → Found A → Found A → List Citation → Type 0
Finds old new more =
    (lists : List (List Citation)) (before : List Citation) → IsFound old lists before → IsFound new lists (before ++ more)

-- a reference of a statement inside a block looks up this word in its table
abbrev pub IsCited : List (List ℕ) → ℕ → lookup.Table × Word → Citation → Type 0
IsCited texts block (table, word) c =
    (table_of c.table ≡ table) × (c.block ≡ block) × (slice_get texts c.text ≡ Some word.text)

-- these are the numbers of what some references inside a block look up
abbrev pub AreCited : List (List ℕ) → List Citation → ℕ → List (lookup.Table × Word) → List ℕ → Type 0
AreCited texts all block [] [] = Unit {0}
AreCited texts all block [] (n ∷ numbers) = ⊥
AreCited texts all block (r ∷ references) [] = ⊥
AreCited texts all block (r ∷ references) (n ∷ numbers) =
    ((c : Citation) × (slice_get all n ≡ Some c) × IsCited texts block r c) × AreCited texts all block references numbers
