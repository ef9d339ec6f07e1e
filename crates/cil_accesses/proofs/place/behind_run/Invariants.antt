use Rattle.std.proofs.Common.{◌≡◌, ◌+◌, sum_by, take}
use Rattle.cil_accesses.specs.Chunks.{ones_of}
use Rattle.cil_accesses.proofs.place.behind_run.Given as goal

abbrev pub invariant-loop-chunk : goal.invariant-loop-chunk
invariant-loop-chunk l = l.rest + sum_by ones_of (take l.chunk-index l.run) ≡ l.place
