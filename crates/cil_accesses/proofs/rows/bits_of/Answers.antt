use Rattle.cil_accesses.specs.Chunks.{nowhere}
use Rattle.cil_accesses.proofs.Moves.{bits-more}
use Rattle.cil_accesses.proofs.rows.bits_of.Goals as goal

pub loop-chunk-preserved : goal.loop-chunk-preserved
loop-chunk-preserved c = bits-more c.args.run.now c.loop-chunk.chunk-index c.loop-chunk.bits nowhere c.loop-chunk-test.true c.loop-chunk.invariant
