use Rattle.cil_accesses.proofs.Common.{◌≡◌, ◌<◌, ◌≤◌, ◌-◌, ℕ, true, get_or, length, Chunk, in_run}
use Rattle.cil_accesses.proofs.run.run_len.Given as goal

abbrev pub invariant-loop-len : goal.invariant-loop-len
invariant-loop-len l = record {
  within : l.len ≤ length l.chunks;
  same : (k : ℕ) (d : Chunk) → k < l.len → in_run l.first (get_or l.chunks k d) ≡ true;
}

abbrev pub decreases-loop-len : goal.decreases-loop-len
decreases-loop-len l = length l.chunks - l.len
