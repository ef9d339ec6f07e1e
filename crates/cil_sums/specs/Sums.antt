-- Sums over numbers, and over those that are put together with numbers of another list.
use Rattle.std.specs.Prelude.{◌≡◌, ◌+◌, ◌<◌, ℕ, zero, suc, List, Option, None, Some, slice_get}

-- the sum over the numbers below one
unfoldable pub sum_below : (ℕ → ℕ) → ℕ → ℕ
sum_below f zero = 0
sum_below f (suc n) = sum_below f n + f n

-- so much, unless there is a place
abbrev pub if_alone : Option (Option ℕ) → ℕ → ℕ
if_alone None x = x
if_alone (Some None) x = x
if_alone (Some (Some j)) x = 0

-- so much as at the place, if there is one
abbrev pub at_place : Option (Option ℕ) → (ℕ → ℕ) → ℕ
at_place None f = 0
at_place (Some None) f = 0
at_place (Some (Some i)) f = f i

-- at a number that has no place in the other list
unfoldable pub alone : (ℕ → ℕ) → List (Option ℕ) → ℕ → ℕ
alone f places i = if_alone (slice_get places i) (f i)

-- at the number whose place in the other list is one
unfoldable pub across : (ℕ → ℕ) → List (Option ℕ) → ℕ → ℕ
across f places j = at_place (slice_get places j) f

-- Numbers below one are put together with numbers below another, both ways.
pub record ArePlaces (n m : ℕ) (ahead back : List (Option ℕ)) : Type 0 where
  pub to : (i j : ℕ) → slice_get ahead i ≡ Some (Some j) → (j < m) × (slice_get back j ≡ Some (Some i))
  pub from : (i j : ℕ) → slice_get back j ≡ Some (Some i) → (i < n) × (slice_get ahead i ≡ Some (Some j))
