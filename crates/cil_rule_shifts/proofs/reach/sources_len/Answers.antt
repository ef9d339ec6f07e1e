use Rattle.cil_rule_shifts.proofs.Common.{arith}
use Rattle.cil_rule_shifts.proofs.ShiftLemmas.{short-one}
use Rattle.cil_rule_shifts.proofs.reach.sources_len.Goals as goal

pub overflow_add-from : goal.overflow_add-from
overflow_add-from g c =
    let word = c.in-Some.ensures in
    let low = short-one c.args.sources word.present.0 c.requires word.present.2 in
    let at = word.present.1 in
    omega (arith, low, at)
