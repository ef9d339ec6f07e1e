use Rattle.std.proofs.Common.{eqb-true}
use Rattle.std.specs.Int.{bit_at}
use Rattle.cil_accesses.proofs.Shifts.{target-within}
use Rattle.cil_accesses.proofs.moving.move_at.Goals as goal

pub bounds-numbers-target : goal.bounds-numbers-target
bounds-numbers-target c = target-within c.args.numbers.now c.args.chunk.now c.requires.within c.args.bit c.requires.bit (eqb-true (bit_at c.args.chunk.now.bits c.args.bit) 1 c.requires.set)
