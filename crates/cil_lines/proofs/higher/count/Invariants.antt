use Rattle.std.proofs.Common.{◌≡◌, ◌-◌, ◌^◌, ◌≤◌, min, length, drop}
use Rattle.cil_lines.specs.Line.{value}
use Rattle.cil_lines.proofs.higher.count.Given as goal

-- the counter by the digits from i on
abbrev pub invariant-loop-i : goal.invariant-loop-i
invariant-loop-i g l = (l.i ≤ length l.digits) × (l.count ≡ min (value (drop l.i l.digits) l.word l.bit) (2 ^ 64 - 1))

abbrev pub decreases-loop-i : goal.decreases-loop-i
decreases-loop-i g l = l.i
