use Rattle.std.proofs.Common.{◌≡◌, ◌+◌, ◌-◌, ℕ, length}
use Rattle.cil_optionals.specs.Given.{commons_at}
use Rattle.cil_optionals.proofs.listed.make_room.Given as goal

-- no common is given or taken
abbrev pub invariant-loop-alloc : goal.invariant-loop-alloc
invariant-loop-alloc g l = (i : ℕ) → commons_at l.given.items i ≡ commons_at l.fn.given.items i

abbrev pub decreases-loop-alloc : goal.decreases-loop-alloc
decreases-loop-alloc g l = l.class + 1 - length l.given.items
