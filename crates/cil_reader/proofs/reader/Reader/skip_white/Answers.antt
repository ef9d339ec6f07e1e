use Rattle.std.proofs.Common.{arith}
use Rattle.cil_reader.proofs.Reading.{placed-column}
use Rattle.cil_reader.proofs.reader.Reader.skip_white.Goals as goal

pub to_right-self-requires-clause-column : goal.to_right-self-requires-clause-column
to_right-self-requires-clause-column g c = omega (arith, placed-column c.args.self.now c.requires.placed)
