-- Numbers, each once, up to 33 of them.
use Rattle.std.specs.Prelude.{ℕ, ◌==◌, ◌||◌, nat_lt, List, [], ◌∷◌, ◌++◌, length, if◌then◌else◌}
use Rattle.std.specs.List.{list_any}

-- with one more, last, if it is new and there are fewer
abbrev pub with_number : List ℕ → ℕ → List ℕ
with_number numbers n = if nat_lt 32 (length numbers) || list_any (λ k. n == k) numbers then numbers else numbers ++ n ∷ []
