use Rattle.std.proofs.Common.{◌≡◌, ◌<◌, ℕ, Some, slice_get}
use Rattle.cil_matching.proofs.numbers.steady.Given as goal

-- so many have their old numbers
abbrev pub invariant-loop-i : goal.invariant-loop-i
invariant-loop-i l = (a : ℕ) → a < l.i → slice_get l.list a ≡ Some (Some a)
