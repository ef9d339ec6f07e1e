-- Places that a walk passed over.
use Rattle.std.specs.Prelude.{◌≡◌, ◌<◌, ◌⊎◌, ℕ, List, Option, Some, length, slice_get}
use Rattle.cil_matching.specs.Spot.{Spot}

-- Places below a number, and the spots of a list that stand there. With those that were found they are all places below it.
pub record ArePassed (spots : List Spot) (found : List (Option ℕ)) (count : ℕ) (passed : List ℕ) (known : List Spot) : Type 0 where
  pub long : length known ≡ length passed
  pub below : (k j : ℕ) → slice_get passed k ≡ Some j → j < count
  pub there : (k j : ℕ) → slice_get passed k ≡ Some j → slice_get known k ≡ slice_get spots j
  pub all : (j : ℕ) → j < count → ((i : ℕ) × (slice_get found i ≡ Some (Some j))) ⊎ ((k : ℕ) × (slice_get passed k ≡ Some j))
