use Rattle.std.proofs.Common.{◌≡◌, ◌<◌, ℕ}
use Rattle.cil_member_rows.specs.Marks.{mark_at}
use Rattle.cil_member_rows.proofs.marks.clear.Given as goal

-- the rows so far have no mark
abbrev pub invariant-loop-mark : goal.invariant-loop-mark
invariant-loop-mark l = (r : ℕ) → r < l.mark-index → mark_at l.marks r ≡ record { first = 0; end = 0 }
