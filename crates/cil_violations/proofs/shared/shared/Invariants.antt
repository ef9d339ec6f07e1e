use Rattle.std.proofs.Common.{◌-◌, ◌^◌}
use Rattle.cil_violations.specs.Held.{both_hold, symbols_in}
use Rattle.cil_violations.proofs.ListedLemmas.{AreFoundBefore}
use Rattle.cil_violations.proofs.shared.shared.Given as goal

abbrev pub invariant-loop-index : goal.invariant-loop-index
invariant-loop-index g l = AreFoundBefore (symbols_in l.members) (both_hold l.members l.first l.second) l.from
    l.list.items

abbrev pub decreases-loop-index : goal.decreases-loop-index
decreases-loop-index g l = 2 ^ 64 - l.from
