use Rattle.cil_program.proofs.Common.{◌∙◌, ap₂, codes, IfOk-weaker}
use Rattle.clap.specs.Matches.{found_of}
use Rattle.clap.proofs.WalkLemmas.{first_value-rows}
use Rattle.cil_program.proofs.CommandLineLemmas.{on-err}
use Rattle.cil_program.specs.Conditionals.{foreign_by}
use Rattle.cil_program.proofs.command_line.found.foreign_of.Goals as goal

pub returns-clause-ok : goal.returns-clause-ok
returns-clause-ok c =
    let found = found_of c.args.words.now in
    let foreign = c.get_str.ensures ∙ first_value-rows found (codes "foreign") in
    let booleans = c.get_str-2.ensures ∙ first_value-rows found (codes "booleans") in
    IfOk-weaker c.foreign_by.result _ _ (λ f e. e ∙ ap₂ foreign_by foreign booleans) c.foreign_by.ensures.ok

pub returns-clause-err : goal.returns-clause-err
returns-clause-err c =
    let found = found_of c.args.words.now in
    let foreign = c.get_str.ensures ∙ first_value-rows found (codes "foreign") in
    let booleans = c.get_str-2.ensures ∙ first_value-rows found (codes "booleans") in
    on-err c.foreign_by.result _ _ (λ isnt is. isnt (ap₂ foreign_by foreign booleans ∙ is)) c.foreign_by.ensures.err
