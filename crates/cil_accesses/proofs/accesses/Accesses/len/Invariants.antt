use Rattle.std.proofs.Common.{◌≡◌, ◌≤◌, ◌*◌, sum_by, take}
use Rattle.cil_accesses.specs.Chunks.{ones_of}
use Rattle.cil_accesses.proofs.accesses.Accesses.len.Given as goal

abbrev pub invariant-loop-chunk : goal.invariant-loop-chunk
invariant-loop-chunk g l = record { counted : l.count ≡ sum_by ones_of (take l.chunk-index l.chunk-items); few : l.count ≤ 64 * l.chunk-index }
