use Rattle.std.proofs.Common.{◌≡◌, ◌≤◌, ℕ, length, drop}
use Rattle.cil_lines.specs.Line.{total}
use Rattle.cil_lines.proofs.higher.end.Given as goal

-- the digits from i on have no place from the end on
abbrev pub invariant-loop-i : goal.invariant-loop-i
invariant-loop-i g l = (l.i ≤ length l.digits) × ((w : ℕ) → l.end ≤ w → total (drop l.i l.digits) w ≡ 0)

abbrev pub decreases-loop-i : goal.decreases-loop-i
decreases-loop-i g l = l.i
