-- Lists of numbers by number.
use Rattle.std.specs.Prelude.{ℕ, ◌==◌, List, [], Option, Some, None, slice_get}
use Rattle.std.specs.List.{position}
use Rattle.std.specs.Option.{option_and_then}

-- the numbers of a list, if there is one
abbrev pub numbers_in : Option (List ℕ) → List ℕ
numbers_in None = []
numbers_in (Some numbers) = numbers

-- the list of a key, by the keys and their lists
abbrev pub list_at : List ℕ × List (List ℕ) → ℕ → List ℕ
list_at groups k = numbers_in (option_and_then (slice_get groups.1) (position (λ key. k == key) groups.0))
