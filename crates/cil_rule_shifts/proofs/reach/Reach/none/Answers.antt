use Rattle.cil_rule_shifts.proofs.ReachLemmas.{takes-nothing}
use Rattle.cil_rule_shifts.proofs.reach.Reach.none.Goals as goal
use Rattle.std.proofs.Common.{refl}

pub returns-clause-short : goal.returns-clause-short
returns-clause-short g c = record { sources = λ s past. c.none.ensures s; targets = λ s t low past. takes-nothing _ s refl t }
