-- Which symbols are in use: for each symbol whether it is.
use Rattle.std.specs.Prelude.{◌≡◌, ◌<◌, ℕ, Bool, true, List, slice_get, Some}
use Rattle.std.specs.List.{count_by}

-- a symbol is in use
abbrev pub IsUsed : List Bool → ℕ → Type 0
IsUsed marks s = slice_get marks s ≡ Some true

-- each of some symbols is in use
abbrev pub AreUsed : List Bool → List ℕ → Type 0
AreUsed marks symbols = (k s : ℕ) → slice_get symbols k ≡ Some s → IsUsed marks s

-- each symbol below one is in use
abbrev pub AreUsedBelow : List Bool → ℕ → Type 0
AreUsedBelow marks next = (s : ℕ) → s < next → IsUsed marks s

-- how many symbols are in use
abbrev pub used_in : List Bool → ℕ
used_in marks = count_by (λ mark. mark) marks
