use Rattle.cil_accesses.proofs.Shifts.{moved-low, moved-high, stays-high}
use Rattle.std.proofs.Common.{arith}
use Rattle.cil_accesses.proofs.moving.moved_up.Goals as goal

pub returns-then-up-eq0-clause-high : goal.returns-then-up-eq0-clause-high
returns-then-up-eq0-clause-high c = stays-high c.args.bits (omega arith) c.args.up (omega arith)

pub returns-clause-low : goal.returns-clause-low
returns-clause-low c = moved-low c.args.bits c.args.up

pub returns-clause-high : goal.returns-clause-high
returns-clause-high c = moved-high c.args.bits c.args.up (omega arith)
