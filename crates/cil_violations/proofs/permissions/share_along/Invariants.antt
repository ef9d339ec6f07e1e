use Rattle.std.proofs.Common.{◌≡◌, ◌+◌, ◌-◌, drop, length}
use Rattle.cil_violations.specs.Permissions.{share}
use Rattle.cil_violations.proofs.permissions.share_along.Given as goal

abbrev pub invariant-loop-at : goal.invariant-loop-at
invariant-loop-at l = share (drop l.at l.first) (drop l.other l.second) ≡ share l.first l.second

abbrev pub decreases-loop-at : goal.decreases-loop-at
decreases-loop-at l = (length l.first - l.at) + (length l.second - l.other)
