use Rattle.std.proofs.Common.{◌≡◌, ◌≤◌, ℕ, slice_index}
use Rattle.cil_member_updates.proofs.kept.last_unlike.Given as goal

-- the words behind are the same
abbrev pub invariant-loop-end : goal.invariant-loop-end
invariant-loop-end g l = (w : ℕ) → l.end ≤ w → slice_index l.one w ≡ slice_index l.other w

abbrev pub decreases-loop-end : goal.decreases-loop-end
decreases-loop-end g l = l.end
