use Rattle.cil_lines.proofs.Common.{◌≡◌, ◌≤◌, ℕ, min, length, drop, bit_at, value}
use Rattle.cil_lines.proofs.higher.present.Given as goal

-- the bits of the digits from i on
abbrev pub invariant-loop-i : goal.invariant-loop-i
invariant-loop-i g l = (l.i ≤ length l.digits) × ((b : ℕ) → bit_at l.present b ≡ min 1 (value (drop l.i l.digits) l.word b))

abbrev pub decreases-loop-i : goal.decreases-loop-i
decreases-loop-i g l = l.i
