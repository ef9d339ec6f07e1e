use Rattle.cil_program.proofs.Common.{◌∙◌, Some, ap, IfOk-weaker}
use Rattle.clap.specs.Walk.{Rule}
use Rattle.clap.specs.Words.{rule_of}
use Rattle.cil_program.specs.Program.{files_app}
use Rattle.cil_program.proofs.command_line.words.project_command.Goals as goal

pub returns : goal.returns
returns c =
    let output = ap rule_of c.short-output.ensures ∙ ap (λ (r : Rule). record r { short = Some 111 }) c.value_option.ensures.rule in
    IfOk-weaker c.of_files.result _ _ (λ r is. (is.0 ∙ (λ i. files_app (c.new_command-project.ensures.0 i) (c.flag_option-list.ensures.rule i) (output i)), is.1)) c.of_files.ensures
