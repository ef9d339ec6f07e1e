use Rattle.std.proofs.Common.{◌-◌}
use Rattle.cil_accesses.proofs.NextBits.{MoveBelow}
use Rattle.cil_accesses.proofs.moving.common_move.Given as goal

-- the targets of the bits so far move up by as much
abbrev pub invariant-loop-bit : goal.invariant-loop-bit
invariant-loop-bit l = MoveBelow l.numbers l.chunk l.up l.from

abbrev pub decreases-loop-bit : goal.decreases-loop-bit
decreases-loop-bit l = 64 - l.from
