-- Places the other way round.
use Rattle.std.specs.Prelude.{◌≡◌, ◌<◌, ℕ, List, Option, None, Some, slice_get, slice_set}

-- with a number at a place, if there is one
abbrev pub noted : List (Option ℕ) → Option ℕ → ℕ → List (Option ℕ)
noted back None i = back
noted back (Some j) i = slice_set back j (Some i)

-- Exactly the first so many numbers stand at the places that a list has at them.
pub record IsInverse (count : ℕ) (places back : List (Option ℕ)) : Type 0 where
  pub to : (i j : ℕ) → slice_get back j ≡ Some (Some i) → (i < count) × (slice_get places i ≡ Some (Some j))
  pub from : (i j : ℕ) → i < count → slice_get places i ≡ Some (Some j) → slice_get back j ≡ Some (Some i)
