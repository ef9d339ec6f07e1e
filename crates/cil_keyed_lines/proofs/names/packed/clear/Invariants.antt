use Rattle.cil_keyed_lines.proofs.Common.{◌≡◌, ◌<◌, ℕ, length, slice_index}
use Rattle.cil_keyed_lines.proofs.names.packed.clear.Given as goal

abbrev pub invariant-loop-line : goal.invariant-loop-line
invariant-loop-line g l = record {
  len : length l.users.items ≡ length l.fn.users.items;
  none : (m : ℕ) → m < l.line → slice_index l.users.items m ≡ 0;
}
