-- The program's command line, as `clap` reads it.
use Rattle.std.specs.Prelude.{◌≡◌, ◌⊎◌, ℕ, List, [], Bool, true, false, Option, None, Some, codes, unwrap_or}
use Rattle.cil_stream.specs.Device.{Gains, GainsFront, HasFailed}
use Rattle.clap.specs.Lexer.{usize_max}
use Rattle.clap.specs.Walk.{Row, Rule, Text, all_of, first_of, one_of}
use Rattle.clap.specs.Words.{subcommand_of, takes}
use Rattle.clap.specs.declared.builder.command.Command.{Command}
use Rattle.clap.specs.declared.builder.command.Command.TheViews.{out-Command}
use Rattle.clap.specs.Simple.{App, app_of, new_app, new_rule, on_top, with_rule, with_subcommand}
use Rattle.clap.specs.declared.builder.action.ArgAction.TheVariants.{Append, Set, SetTrue}
use Rattle.cil_store_specs.specs.Next.{for_memory}
use Rattle.cil_program.specs.CommandLine.{CompilesFiles, Content, Written}
use Rattle.cil_program.specs.Given.{AnswersGiven}
use Rattle.cil_program.specs.Conditionals.{Conditionals, Foreign, by_names, conditionals_by, foreign_by, misused, misuse_text, refused}
use Rattle.cil_program.specs.Meanings.{refusal_text}
use Rattle.cil_program.specs.Wanted.{Wanted, compiled, wanted_by}
use Rattle.cil_program.specs.declared.command_line.compile.Report.{Report}
use Rattle.cil_program.specs.declared.command_line.compile.Report.TheVariants.{Listing, Violations}
use Rattle.cil_program.specs.declared.command_line.conditionals.Misuse.{Misuse}
use Rattle.cil_program.specs.declared.command_line.conditionals.Misuse.TheVariants.{ListAndOutput, OtherBooleans}

abbrev pub session_app : App
session_app = new_app (codes "session")

-- a command of the code is this one, and has no option that subcommands have too
abbrev pub IsCommand : App → Command → Type 0
IsCommand app command = (app_of command ≡ app) × ((out-Command command).has_globals ≡ false)

-- an option that stands alone, and one with a value
abbrev pub flag_rule : Text → Rule
flag_rule name = record (new_rule name) { long = Some name; action = Some SetTrue }

abbrev pub value_rule : Text → Rule
value_rule name = record (new_rule name) { long = Some name; action = Some Set; value_names = 1 }

-- one file or more
abbrev pub files_rule : Rule
files_rule = record (new_rule (codes "FILE")) { required = true; range = Some (record { start_inclusive = 1; end_inclusive = usize_max }); action = Some Append }

-- a subcommand of files with two options of its own, and how conditional statements are taken
abbrev pub files_app : App → Rule → Rule → App
files_app app first second = with_rule (with_rule (with_rule (with_rule app first) second) (value_rule (codes "booleans"))) files_rule

-- how statements outside the language are taken behind `--foreign`
abbrev pub compile_app : App
compile_app = files_app (new_app (codes "compile")) (flag_rule (codes "violations")) (value_rule (codes "foreign"))

-- whether kinds are listed in place of projections, and the folder to which projections are written
abbrev pub project_app : App
project_app = files_app (new_app (codes "project")) (flag_rule (codes "list")) (record (value_rule (codes "output")) { short = Some 111 })

abbrev pub bare_program : App
bare_program = on_top (λ s. record s { has_version = true; subcommand_required = true }) (new_app (codes "cilsem"))

abbrev pub program_app : App
program_app = with_subcommand (with_subcommand (with_subcommand bare_program session_app.top) compile_app.top) project_app.top

-- where the words ask for a subcommand, this is so with what was found behind it
abbrev pub WhereAsked : List Text → Text → (List Row → Type 0) → Type 0
WhereAsked words name IsSo =
    (rows : List Row) → takes program_app words ≡ true → subcommand_of program_app words ≡ Some (name, rows) → IsSo rows

-- the files among what was found behind `compile`
abbrev pub files_asked : List Row → List Text
files_asked rows = unwrap_or (all_of (codes "FILE") rows) []

-- the report by what stands for the option, which `clap` fills in
abbrev pub IsReportFor : Option Text → Report → Type 0
IsReportFor text report = (text ≡ Some (codes "true") → report ≡ Violations) × (text ≡ Some (codes "false") → report ≡ Listing)

-- the report among what was found behind `compile`
abbrev pub IsReportAsked : List Row → Report → Type 0
IsReportAsked rows report = IsReportFor (one_of (codes "violations") rows) report

-- how statements outside the language are taken, by what was found behind `compile`
abbrev pub foreign_asked : List Row → Foreign
foreign_asked rows = foreign_by (first_of (codes "foreign") rows) (first_of (codes "booleans") rows)

-- and conditional ones, by what was found behind `project`
abbrev pub conditionals_asked : List Row → Option Conditionals
conditionals_asked rows = conditionals_by (first_of (codes "booleans") rows)

-- whether `--list` is among what was found behind `project`, by what stands for it, which `clap` fills in
abbrev pub IsListFor : Option Text → Bool → Type 0
IsListFor text is_list = (text ≡ Some (codes "true") → is_list ≡ true) × (text ≡ Some (codes "false") → is_list ≡ false)

abbrev pub IsListAsked : List Row → Bool → Type 0
IsListAsked rows is_list = IsListFor (one_of (codes "list") rows) is_list

-- what is wanted of projections, by that and by what `--output` says
abbrev pub IsWanted : List Row → Option Wanted → Type 0
IsWanted rows wanted = (is_list : Bool) × IsListAsked rows is_list × (wanted ≡ wanted_by is_list (first_of (codes "output") rows))

-- What is told where words of the command line have no meaning: why; or that memory ran out before that was found.
pub data TellsMisuse (misuse : Misuse) (printed told : List ℕ) (status : ℕ) : Type 0 where
  is_misuse : printed ≡ [] → told ≡ misuse_text misuse → status ≡ 2 → TellsMisuse misuse printed told status
  lacks_memory_for_it : printed ≡ [] → told ≡ refusal_text true for_memory → status ≡ 1 → TellsMisuse misuse printed told status

-- what is to be printed and told of files that are compiled, by how statements outside the language are taken, and the exit status
abbrev pub IsCompiled : Foreign → (List ℕ → Content) → List (List ℕ) → Report → List ℕ → List ℕ → ℕ → Type 0
IsCompiled refused content paths report printed told status = CompilesFiles content paths report printed told status
IsCompiled (by_names conditionals) content paths report printed told status = AnswersGiven content paths conditionals (compiled report) printed told status
IsCompiled (misused misuse) content paths report printed told status = TellsMisuse misuse printed told status

-- and of files that are projected, by what is wanted and how conditional statements are taken
abbrev pub IsProjected : Option Wanted → Option Conditionals → (List ℕ → Content) → List (List ℕ) → List ℕ → List ℕ → ℕ → Type 0
IsProjected None conditionals content paths printed told status = TellsMisuse ListAndOutput printed told status
IsProjected (Some wanted) None content paths printed told status = TellsMisuse OtherBooleans printed told status
IsProjected (Some wanted) (Some conditionals) content paths printed told status = AnswersGiven content paths conditionals wanted printed told status

-- by what was found behind `compile` this is to be printed and told, and this is the exit status
abbrev pub IsToBeWritten : (List ℕ → Content) → List Row → List ℕ → List ℕ → ℕ → Type 0
IsToBeWritten content rows printed told status =
    (report : Report) × IsReportAsked rows report
    × IsCompiled (foreign_asked rows) content (files_asked rows) report printed told status

-- and by what was found behind `project`
abbrev pub IsToBePrinted : (List ℕ → Content) → List Row → List ℕ → List ℕ → ℕ → Type 0
IsToBePrinted content rows printed told status =
    (wanted : Option Wanted) × IsWanted rows wanted
    × IsProjected wanted (conditionals_asked rows) content (files_asked rows) printed told status

-- What is to be written was written; or a sink failed, and a beginning was written.
abbrev pub IsAnswered :
    (List ℕ → List ℕ → ℕ → Type 0) → Written → Written → Written → Written → ℕ → Type 0
IsAnswered IsMeant out new_out err new_err status =
    ((printed : List ℕ) × (told : List ℕ)
    × Gains out.taken new_out.taken printed × Gains err.taken new_err.taken told
    × IsMeant printed told status)
    ⊎ ((status ≡ 3)
    × (HasFailed out.failures new_out.failures ⊎ HasFailed err.failures new_err.failures)
    × ((printed : List ℕ) × (told : List ℕ) × (meant : ℕ)
    × GainsFront out.taken new_out.taken printed × GainsFront err.taken new_err.taken told
    × IsMeant printed told meant))

-- What was found behind `compile` is answered: the files were compiled and the report written; or
-- a sink failed, and a beginning was written.
abbrev pub AnswersCompile :
    (List ℕ → Content) → List Row → Written → Written → Written → Written → ℕ → Type 0
AnswersCompile content rows out new_out err new_err status =
    IsAnswered (IsToBeWritten content rows) out new_out err new_err status

-- So is what was found behind `project`.
abbrev pub AnswersProject :
    (List ℕ → Content) → List Row → Written → Written → Written → Written → ℕ → Type 0
AnswersProject content rows out new_out err new_err status =
    IsAnswered (IsToBePrinted content rows) out new_out err new_err status
