-- Lists of items by the offsets at which they end.
use Rattle.std.specs.Prelude.{ℕ, zero, suc, ◌-◌, ◌≤◌, List, [], ◌∷◌, take, drop, slice_index_or}

-- the items up to each end, from those behind an offset on
abbrev pub cut : {T : Type 0} → ℕ → List ℕ → List T → List (List T)
cut from [] items = []
cut from (end ∷ ends) items = take (end - from) (drop from items) ∷ cut end ends items

-- the items behind the last end
abbrev pub behind : {T : Type 0} → ℕ → List ℕ → List T → List T
behind from [] items = drop from items
behind from (end ∷ ends) items = behind end ends items

-- the ends rise, from one offset up to another
abbrev pub Rises : ℕ → List ℕ → ℕ → Type 0
Rises from [] high = from ≤ high
Rises from (end ∷ ends) high = (from ≤ end) × Rises end ends high

-- where the list of a number starts
abbrev pub start_of : ℕ → List ℕ → ℕ → ℕ
start_of from ends zero = from
start_of from ends (suc n) = slice_index_or ends n 0
