-- Counts that rise by as many as there are things of a kind, or about as many.
use Rattle.std.specs.Prelude.{◌≢◌, ◌↔◌, ◌+◌, ◌-◌, ◌*◌, ◌<◌, ◌≤◌, ◌^◌, ◌&&◌, ℕ, Bool, IsTrue, List, length, min, nat_lt}
use Rattle.std.specs.List.{AllPairs, Contains}

-- A count rises by the number of things that pass a test. It stays at the greatest u128 where it would pass it.
pub record RisesBy {X : Type 0} (test : X → Bool) (before after : ℕ) : Type 0 where
  pub those : List X
  pub exact : (x : X) → Contains those x ↔ IsTrue (test x)
  pub once : AllPairs (λ x y. x ≢ y) those
  pub at_most : after ≤ before + length those
  pub at_least : min (before + length those) (2 ^ 128 - 1) ≤ after

-- the numbers below one with the things that pass the number's test
abbrev pub below : {X : Type 0} → (ℕ → X → Bool) → ℕ → ℕ × X → Bool
below test n p = nat_lt p.0 n && test p.0 p.1

-- A count rises by one or two for each of some things. Each of those may raise it, and all that must are among them. It stays at the
-- greatest u128 where it would pass it.
pub record RisesWithin {X : Type 0} (May Must : X → Type 0) (before after : ℕ) : Type 0 where
  pub those : List X
  pub each : (x : X) → Contains those x → May x
  pub all : (x : X) → Must x → Contains those x
  pub once : AllPairs (λ x y. x ≢ y) those
  pub at_most : after ≤ before + 2 * length those
  pub at_least : min (before + length those) (2 ^ 128 - 1) ≤ after

-- the numbers below one with the number's things
abbrev pub UpTo : {X : Type 0} → (ℕ → X → Type 0) → ℕ → ℕ × X → Type 0
UpTo Of n p = (p.0 < n) × Of p.0 p.1

-- those of the numbers below one that pass a test
abbrev pub up_to : (ℕ → Bool) → ℕ → ℕ → Bool
up_to test n k = nat_lt k n && test k
