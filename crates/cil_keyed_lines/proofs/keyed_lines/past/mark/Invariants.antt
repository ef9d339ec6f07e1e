use Rattle.cil_keyed_lines.proofs.Common.{◌≡◌, ℕ, ◌+◌, ◌-◌, false, get_or, length}
use Rattle.cil_keyed_lines.proofs.keyed_lines.past.mark.Given as goal

-- no line has got a mark
abbrev pub invariant-loop-marks : goal.invariant-loop-marks
invariant-loop-marks g l = record {
  same : (i : ℕ) → get_or l.marks.items i false ≡ get_or l.fn.marks.items i false;
}

abbrev pub decreases-loop-marks : goal.decreases-loop-marks
decreases-loop-marks g l = l.change.line + 1 - length l.marks.items
