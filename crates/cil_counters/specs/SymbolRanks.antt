-- The numbers of a policy's names, by the symbols of the names.
use Rattle.std.specs.Prelude.{◌≡◌, ◌<◌, ℕ, List, length, slice_get, slice_index, Some}

-- There is a number for each symbol, and at the symbol of each name is its place among the names.
pub record AreRanks (symbols names : List (List ℕ)) (numbers : List ℕ) : Type 0 where
  pub long : length numbers ≡ length symbols
  pub places : (k s : ℕ) (name : List ℕ) → slice_get names k ≡ Some name → slice_get symbols s ≡ Some name
      → slice_index numbers s ≡ k

-- At the symbols of the first numbers stand these numbers.
pub record ArePut (symbols : List ℕ) (first : ℕ) (old numbers : List ℕ) : Type 0 where
  pub len : length numbers ≡ length old
  pub put : (k s : ℕ) → slice_get symbols k ≡ Some s → k < first → s < length old → slice_index numbers s ≡ k
