use Rattle.cil_keyed_lines.proofs.Common.{◌≡◌, ◌≢◌, ◌<◌, ◌≤◌, ℕ, length, name_now, ArePaired, AreTaken}
use Rattle.cil_keyed_lines.proofs.ended.fill_place.Given as goal

abbrev pub invariant-loop-names : goal.invariant-loop-names
invariant-loop-names g l = record {
  paired : ArePaired l.keys.keys l.names;
  taken : AreTaken l.fn.keys.keys l.fn.names l.keys.keys l.names;
  len : length l.keys.keys ≤ length l.fn.keys.keys;
  others : (p : ℕ) → p ≢ l.place → p < length l.keys.keys → name_now l.names p ≡ name_now l.fn.names p;
}

abbrev pub decreases-loop-names : goal.decreases-loop-names
decreases-loop-names g l = length l.keys.keys
