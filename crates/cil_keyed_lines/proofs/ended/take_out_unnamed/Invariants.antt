use Rattle.cil_keyed_lines.proofs.Common.{◌≡◌, ◌<◌, ℕ, true, has_place, length, name_now, ArePaired, AreTaken}
use Rattle.cil_keyed_lines.proofs.ended.take_out_unnamed.Given as goal

-- each key that names no line is that of a change that is left
abbrev pub invariant-loop-change : goal.invariant-loop-change
invariant-loop-change g l = record {
  paired : ArePaired l.keys.keys l.names;
  taken : AreTaken l.fn.keys.keys l.fn.names l.keys.keys l.names;
  logged : (p : ℕ) → p < length l.keys.keys → name_now l.names p ≡ 0 → has_place l.changes.items p ≡ true;
}

abbrev pub decreases-loop-change : goal.decreases-loop-change
decreases-loop-change g l = length l.changes.items
