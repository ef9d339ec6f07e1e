use Rattle.cil_accesses.proofs.Renumbering.{one-access}
use Rattle.cil_accesses.proofs.chunk.Chunk.of.Goals as goal

pub returns-clause-one : goal.returns-clause-one
returns-clause-one c = one-access c.args.access
