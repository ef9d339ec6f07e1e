use Rattle.cil_keyed_lines.proofs.Common.{◌≡◌, ◌≤◌, ℕ, length, reverse, slice_index, take, unnamed}
use Rattle.cil_keyed_lines.proofs.names.take_back.Given as goal

-- the changes that are left lead back to the lines that places named before
abbrev pub invariant-loop-left : goal.invariant-loop-left
invariant-loop-left g l = record {
  len : length l.named.items ≡ length l.fn.named.items;
  within : l.left ≤ length l.log;
  same : (p : ℕ) → unnamed (reverse (take l.left l.log)) (slice_index l.named.items) p ≡ unnamed (reverse l.log) (slice_index l.fn.named.items) p;
}

abbrev pub decreases-loop-left : goal.decreases-loop-left
decreases-loop-left g l = l.left
