use Rattle.cil_program.proofs.Common.{◌∙◌, IfOk-weaker}
use Rattle.cil_program.specs.Program.{files_app}
use Rattle.cil_program.proofs.command_line.words.compile_command.Goals as goal

pub returns : goal.returns
returns c =
    IfOk-weaker c.of_files.result _ _ (λ r is. (is.0 ∙ (λ i. files_app (c.new_command-compile.ensures.0 i) (c.flag_option-violations.ensures.rule i) (c.value_option-foreign.ensures.rule i)), is.1)) c.of_files.ensures
