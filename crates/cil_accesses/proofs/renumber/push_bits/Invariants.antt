use Rattle.std.proofs.Common.{◌-◌}
use Rattle.cil_accesses.proofs.NextBits.{IsHeld}
use Rattle.cil_accesses.proofs.renumber.push_bits.Given as goal

abbrev pub invariant-loop-bit : goal.invariant-loop-bit
invariant-loop-bit g l = IsHeld l.numbers l.chunk l.fn.made.items l.from l.made.items l.held

abbrev pub decreases-loop-bit : goal.decreases-loop-bit
decreases-loop-bit g l = 64 - l.from
