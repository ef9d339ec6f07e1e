use Rattle.cil_recorded.proofs.Common.{◌∙◌, [], ap, get_or_default, Counters, count_of}
use Rattle.cil_recorded.proofs.LogLemmas.{set_kept}
use Rattle.cil_recorded.proofs.word_steps.give_up.Goals as goal

pub returns-clause-now : goal.returns-clause-now
returns-clause-now g c =
    let lines = c.args.lines.now.items in
    let is = c.index_mut-at.ensures.value ∙ get_or_default lines c.args.line _ (record { lowest = record { dense = []; sparse = [] }; higher = [] }) c.requires.line in
    set_kept lines c.args.line 0 0 c.give_up.new.self c.requires.line (λ t. c.give_up.ensures t ∙ ap (λ (at : Counters). count_of at t) is)
