-- What given paths stand for, and what is printed and told of them.
use Rattle.std.specs.Prelude.{◌≡◌, ◌⊎◌, ◌==◌, ℕ, List, [], ◌∷◌, ◌++◌, Bool, true, ◌&&◌, if◌then◌else◌, length, not, map, flat_map, codes}
use Rattle.std.specs.List.{AllZip, ends_with, filter, starts_with}
use Rattle.std.specs.List.Sorted.{IsPermutation, IsSorted}
use Rattle.cil_specs.specs.Lookup.{has_name, with_name}
use Rattle.cil_specs.specs.Report.{name_cmp}
use Rattle.cil_store_specs.specs.Next.{for_memory}
use Rattle.cil_program.specs.ByNames.{AnswersByNames}
use Rattle.cil_program.specs.CommandLine.{Content, NamesModule, holds, is_folder, unreadable, untold}
use Rattle.cil_program.specs.Conditionals.{Conditionals}
use Rattle.cil_program.specs.Meanings.{refusal_text}
use Rattle.cil_program.specs.Wanted.{Wanted}

-- whether a name in a folder is that of a CIL file which isn't hidden
abbrev pub is_cil_file : List ℕ → Bool
is_cil_file name = ends_with ◌==◌ name (codes ".cil") && not (starts_with ◌==◌ name (codes "."))

-- a path with a slash at its end, but for the empty one
abbrev pub with_slash : List ℕ → List ℕ
with_slash path = if not (length path == 0) && not (ends_with ◌==◌ path (codes "/")) then path ++ 47 ∷ [] else path

-- the path of a file in a folder
abbrev pub in_folder : List ℕ → List ℕ → List ℕ
in_folder folder name = with_slash folder ++ name

-- Paths are those of the CIL files in a folder in which there are these names, in the order of the names' bytes.
pub record AreFilesIn (folder : List ℕ) (names paths : List (List ℕ)) : Type 0 where
  pub sorted : List (List ℕ)
  pub same : IsPermutation names sorted
  pub ascend : IsSorted name_cmp sorted
  pub are : paths ≡ map (in_folder folder) (filter is_cil_file sorted)

-- What a given path stands for, by what is told of it: itself, or the files in a folder. Where nothing is told it is one of them.
abbrev pub StandsFor : Content → List ℕ → List (List ℕ) → Type 0
StandsFor untold given paths = (paths ≡ given ∷ []) ⊎ ((names : List (List ℕ)) × AreFilesIn given names paths)
StandsFor unreadable given paths = paths ≡ given ∷ []
StandsFor (holds whole) given paths = paths ≡ given ∷ []
StandsFor (is_folder names) given paths = AreFilesIn given names paths

-- what given paths stand for, in their order
abbrev pub StandFor : (List ℕ → Content) → List (List ℕ) → List (List ℕ) → Type 0
StandFor content [] paths = paths ≡ []
StandFor content (path ∷ given) paths =
    (some : List (List ℕ)) × (others : List (List ℕ)) × StandsFor (content path) path some × StandFor content given others × (paths ≡ some ++ others)

-- the line of a file that has the module name of an earlier one
abbrev pub same_name_line : List ℕ → List ℕ
same_name_line path = codes "note: " ++ (path ++ codes " has the module name of an earlier file\n")

-- those of some paths, with their module names, of which the module name is among names or that of an earlier path
abbrev pub same_named : List (List ℕ) → List (List ℕ) → List (List ℕ) → List (List ℕ)
same_named earlier [] names = []
same_named earlier (path ∷ paths) [] = []
same_named earlier (path ∷ paths) (name ∷ names) =
    (if has_name earlier name then path ∷ [] else []) ++ same_named (with_name earlier name) paths names

-- the paths, among some, of files that have the module names of earlier ones
abbrev pub AreSameNamed : List (List ℕ) → List (List ℕ) → Type 0
AreSameNamed paths found = (names : List (List ℕ)) × AllZip NamesModule paths names × (found ≡ same_named [] paths names)

-- What is printed and told of given paths whose files' statements outside the language are taken by their names alone, and the exit
-- status: which of the files that they stand for have the module names of earlier ones, and then what is of these files; or that
-- memory ran out.
pub data AnswersGiven (content : List ℕ → Content) (given : List (List ℕ)) (conditionals : Conditionals) (wanted : Wanted)
    (printed told : List ℕ) (status : ℕ) : Type 0 where
  answers_files : (paths names : List (List ℕ)) (answer : List ℕ) → StandFor content given paths → AllZip NamesModule paths names
      → AnswersByNames content paths conditionals wanted printed answer status
      → told ≡ flat_map same_name_line (same_named [] paths names) ++ answer
      → AnswersGiven content given conditionals wanted printed told status
  lists_none : printed ≡ [] → told ≡ refusal_text true for_memory → status ≡ 1
      → AnswersGiven content given conditionals wanted printed told status
