use Rattle.std.proofs.Common.{take}
use Rattle.cil_accesses.specs.Rows.{HasBitsOf}
use Rattle.cil_accesses.proofs.rows.bits_of.Given as goal

abbrev pub invariant-loop-chunk : goal.invariant-loop-chunk
invariant-loop-chunk l = HasBitsOf l.bits (take l.chunk-index l.run)
