use Rattle.cil_lines.proofs.Common.{◌≤◌, length, drop, IsNext, total}
use Rattle.cil_lines.proofs.higher.next_place.Given as goal

-- the first place by the digits from i on
abbrev pub invariant-loop-i : goal.invariant-loop-i
invariant-loop-i g l = (l.i ≤ length l.digits) × IsNext (total (drop l.i l.digits)) l.from l.next

abbrev pub decreases-loop-i : goal.decreases-loop-i
decreases-loop-i g l = l.i
