use Rattle.std.proofs.Common.{◌<◌, ◌^◌, sym, rules}
use Rattle.cil_accesses.proofs.Counts.{ones-of_bits}
use Rattle.cil_accesses.proofs.chunk.Chunk.len.Goals as goal

pub returns-clause-count : goal.returns-clause-count
returns-clause-count c = let h : c.args.self.now.bits < 2 ^ 64 = search rules in sym (ones-of_bits c.args.self.now h)
