use Rattle.std.proofs.Common.{arith}
use Rattle.cil_accesses.proofs.NextBits.{next-is, no-next}
use Rattle.cil_accesses.proofs.chunk.Chunk.next_bit.Goals as goal

pub returns-then-bits-eq0 : goal.returns-then-bits-eq0
returns-then-bits-eq0 c = no-next c.args.self.now c.args.from c.if-bits-eq0.true

pub returns : goal.returns
returns c = next-is c.args.self.now c.args.from (omega arith) (omega arith)
