use Rattle.cil_accesses.proofs.Common.{◌≡◌, ◌<◌, ◌^◌, length, slice_get, All, accesses_of}
use Rattle.cil_accesses.proofs.place.access_in.Given as goal

abbrev pub invariant-loop-run : goal.invariant-loop-run
invariant-loop-run l = record {
  words : All (λ c. c.word < 2 ^ 26) l.chunks;
  at : slice_get (accesses_of l.fn.chunks) l.place ≡ slice_get (accesses_of l.chunks) l.rest;
}

abbrev pub decreases-loop-run : goal.decreases-loop-run
decreases-loop-run l = length l.chunks
