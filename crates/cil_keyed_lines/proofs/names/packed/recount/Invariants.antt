use Rattle.cil_keyed_lines.proofs.Common.{◌≡◌, ◌≢◌, ℕ, length, slice_index, take, uses}
use Rattle.cil_keyed_lines.proofs.names.packed.recount.Given as goal

-- so many places are counted
abbrev pub invariant-loop-line : goal.invariant-loop-line
invariant-loop-line g l = record {
  len : length l.users.items ≡ length l.fn.users.items;
  counted : (m : ℕ) → m ≢ 0 → slice_index l.users.items m ≡ uses (take l.line-index l.named) m;
}
