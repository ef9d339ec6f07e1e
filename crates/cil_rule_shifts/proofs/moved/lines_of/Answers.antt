use Rattle.cil_rule_shifts.proofs.Common.{◌∙◌}
use Rattle.cil_rule_shifts.proofs.ReachLemmas.{takes-these}
use Rattle.cil_rule_shifts.proofs.moved.lines_of.Goals as goal

pub returns-in_ok-now-in-These-These : goal.returns-in_ok-now-in-These-These
returns-in_ok-now-in-These-These g c s t =
    let these = c.in-These-These in
    (takes-these c.args.was.now s these.had these.is-0 t ∙ c.in_ok-before-in-These-These.ensures t, takes-these c.args.is.now s these.has these.is-1 t ∙ c.in_ok-now-in-These-These.ensures t)
