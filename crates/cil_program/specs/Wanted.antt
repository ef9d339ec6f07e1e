-- What is wanted of files whose statements outside the language are taken by their names alone.
use Rattle.std.specs.Prelude.{ℕ, Bool, true, false, List, Option, None, Some}
use Rattle.cil_program.specs.declared.command_line.compile.Report.{Report}
use Rattle.cil_program.specs.declared.command_line.wanted.Wanted as code
use Rattle.cil_program.specs.declared.command_line.wanted.Wanted.TheVariants.{Compiled, Projections, Kinds, InFolder}

-- What is wanted of files: what is written of the policy that their projections are compiled to; their projections, printed; the kinds of
-- statements that are taken by their names, printed; or their projections, in files in a folder.
pub data Wanted : Type 0 where
  compiled : Report → Wanted
  projections : Wanted
  kinds : Wanted
  in_folder : List ℕ → Wanted

-- what is wanted of projections, by whether `--list` is there and what `--output` says; none where both are there
abbrev pub wanted_by : Bool → Option (List ℕ) → Option Wanted
wanted_by false None = Some projections
wanted_by false (Some folder) = Some (in_folder folder)
wanted_by true None = Some kinds
wanted_by true (Some folder) = None

-- what the code's values say
abbrev pub wanted_in : code.Wanted → Wanted
wanted_in (Compiled report) = compiled report
wanted_in Projections = projections
wanted_in Kinds = kinds
wanted_in (InFolder folder) = in_folder folder.now
