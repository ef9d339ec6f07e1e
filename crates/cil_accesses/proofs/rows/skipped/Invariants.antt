use Rattle.cil_accesses.proofs.Common.{◌≡◌, ◌<◌, ◌≤◌, ◌-◌, ℕ, true, not, get_or, length, Chunk, has_bit}
use Rattle.cil_accesses.proofs.rows.skipped.Given as goal

abbrev pub invariant-loop-count : goal.invariant-loop-count
invariant-loop-count l = record {
  within : l.count ≤ length l.chunks;
  same : (k : ℕ) (d : Chunk) → k < l.count → not (has_bit l.bit (get_or l.chunks k d)) ≡ true;
}

abbrev pub decreases-loop-count : goal.decreases-loop-count
decreases-loop-count l = length l.chunks - l.count
