use Rattle.std.proofs.Common.{◌≡◌, ◌<◌, ℕ, Some, slice_get}
use Rattle.cil_matching.proofs.set_matching.first_open.Given as goal

-- so many have a place
abbrev pub invariant-loop-i : goal.invariant-loop-i
invariant-loop-i l = (a : ℕ) → a < l.i → (k : ℕ) × (slice_get l.places a ≡ Some (Some k))
