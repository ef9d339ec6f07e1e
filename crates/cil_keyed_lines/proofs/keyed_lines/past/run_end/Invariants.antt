use Rattle.cil_keyed_lines.proofs.Common.{◌≡◌, ◌-◌, ◌<◌, ◌≤◌, ℕ, length, slice_index}
use Rattle.cil_keyed_lines.proofs.keyed_lines.past.run_end.Given as goal

-- the places so far name the same lines
abbrev pub invariant-loop-end : goal.invariant-loop-end
invariant-loop-end l = record {
  further : l.place < l.end;
  within : l.end ≤ length l.is;
  is : (p : ℕ) → l.place ≤ p → p < l.end → slice_index l.is p ≡ slice_index l.is l.place;
  was : (p : ℕ) → l.place ≤ p → p < l.end → slice_index l.was p ≡ slice_index l.was l.place;
}

abbrev pub decreases-loop-end : goal.decreases-loop-end
decreases-loop-end l = l.len - l.end
