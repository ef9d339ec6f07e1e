use Rattle.cil_recorded.proofs.Common.{◌+◌, ◌∙◌, [], ap, get_or_default, Counters, count_of, hit}
use Rattle.cil_recorded.proofs.LogLemmas.{set_raised}
use Rattle.cil_recorded.proofs.word_steps.raise.Goals as goal

pub returns-clause-now : goal.returns-clause-now
returns-clause-now g c =
    let lines = c.args.lines.now.items in
    let is = c.index_mut-at.ensures.value ∙ get_or_default lines c.args.line _ (record { lowest = record { dense = []; sparse = [] }; higher = [] }) c.requires.line in
    set_raised lines c.args.line c.args.word c.args.mask c.raise.new.self c.requires.line
    (λ t. c.raise.ensures.now t ∙ ap (λ (at : Counters). count_of at t + hit c.args.word c.args.mask t) is)
