use Rattle.std.proofs.Common.{◌≡◌, ◌≤◌, ◌-◌, ℕ, length}
use Rattle.cil_symbols.specs.InUse.{used_in, IsUsed}
use Rattle.cil_symbols.proofs.numbering.pad.Given as goal

-- what was in use is, and nothing else
abbrev pub invariant-loop-marks : goal.invariant-loop-marks
invariant-loop-marks g l = record {
  short : length l.marks.items ≤ l.count;
  used : (s : ℕ) → IsUsed l.fn.marks.items s → IsUsed l.marks.items s;
  count : used_in l.marks.items ≡ used_in l.fn.marks.items;
}

abbrev pub decreases-loop-marks : goal.decreases-loop-marks
decreases-loop-marks g l = l.count - length l.marks.items
