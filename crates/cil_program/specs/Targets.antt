-- The files that projections are written to.
use Rattle.std.specs.Prelude.{◌≡◌, ◌++◌, ℕ, List, codes}
use Rattle.std.specs.Path.{path_buf_bytes, path_join}
use Rattle.cil_program.specs.CommandLine.{IsBaseName}
use Rattle.cil_program.specs.Reasons.{reason_line}
use Rattle.cil_program.specs.declared.command_line.reason.Reason.{Reason}
use Rattle.cil_program.specs.declared.command_line.targets.Target.{Target}

-- the path, in a folder, of the base name of another path
abbrev pub IsPathIn : List ℕ → List ℕ → List ℕ → Type 0
IsPathIn folder path target = (base : List ℕ) × IsBaseName path base × (target ≡ path_join folder base)

-- a text of the file at a path, to be written to a folder under the file's base name
abbrev pub IsTarget : List ℕ → List ℕ → List ℕ → Target → Type 0
IsTarget folder path text target = IsPathIn folder path (path_buf_bytes target.path) × (target.text.now ≡ text)

-- a text was written to a folder under the base name of its file, where `written` says what was written to which path
abbrev pub IsStored : (List ℕ → List ℕ → Type 0) → List ℕ → List ℕ → List ℕ → Type 0
IsStored written folder path text = (target : List ℕ) × IsPathIn folder path target × written target text

-- a file that can't be written, and why
abbrev pub unwritable_text : List ℕ → Reason → List ℕ
unwritable_text path reason = (codes "unwritable " ++ (path ++ codes "\n")) ++ reason_line reason
