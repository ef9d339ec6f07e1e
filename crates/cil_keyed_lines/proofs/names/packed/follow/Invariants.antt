use Rattle.cil_keyed_lines.proofs.Common.{◌≡◌, ◌<◌, ◌≤◌, ℕ, length, slice_index}
use Rattle.cil_keyed_lines.proofs.names.packed.follow.Given as goal

-- so many places name their lines where these went, and the others as before
abbrev pub invariant-loop-place : goal.invariant-loop-place
invariant-loop-place g l = record {
  len : length l.named.items ≡ length l.fn.named.items;
  left : (p : ℕ) → slice_index l.fn.named.items p < l.end → slice_index l.named.items p ≡ slice_index l.fn.named.items p;
  gone : (p : ℕ) → p < l.place → l.end ≤ slice_index l.fn.named.items p → slice_index l.named.items p ≡ slice_index l.went_to (slice_index l.fn.named.items p);
  rest : (p : ℕ) → l.place ≤ p → slice_index l.named.items p ≡ slice_index l.fn.named.items p;
}
