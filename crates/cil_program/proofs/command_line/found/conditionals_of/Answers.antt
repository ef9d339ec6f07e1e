use Rattle.cil_program.proofs.Common.{◌∙◌, ap, codes, IfOk-weaker}
use Rattle.clap.specs.Matches.{found_of}
use Rattle.clap.proofs.WalkLemmas.{first_value-rows}
use Rattle.cil_program.specs.Conditionals.{conditionals_by}
use Rattle.cil_program.proofs.command_line.found.conditionals_of.Goals as goal

pub returns : goal.returns
returns c =
    let booleans = c.get_str.ensures ∙ first_value-rows (found_of c.args.words.now) (codes "booleans") in
    IfOk-weaker c.conditionals_by.result _ _ (λ f e. e ∙ ap conditionals_by booleans) c.conditionals_by.ensures
