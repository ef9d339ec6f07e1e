use Rattle.cil_keyed_lines.proofs.Common.{◌≡◌, ℕ, length, name_before, reverse, slice_index, unnamed, AreNames}
use Rattle.cil_keyed_lines.proofs.names.Names.undo.Given as goal

-- the changes that are left lead back to the lines that places named before
abbrev pub invariant-loop-change : goal.invariant-loop-change
invariant-loop-change g l = record {
  are : AreNames l.self-inside.named.items l.self-inside.users.items l.self-inside.log.items;
  len : length l.self-inside.named.items ≡ length l.fn.self.named;
  lines : length l.self-inside.users.items ≡ l.fn.self.lines;
  same : (p : ℕ) → unnamed (reverse l.self-inside.log.items) (slice_index l.self-inside.named.items) p ≡ name_before l.fn.self p;
}

abbrev pub decreases-loop-change : goal.decreases-loop-change
decreases-loop-change g l = length l.self-inside.log.items
