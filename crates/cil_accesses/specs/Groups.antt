-- Groups of elements that stand one behind the other.
use Rattle.std.specs.Prelude.{◌≡◌, Bool, List, [], ◌∷◌, ◌++◌, length, if◌then◌else◌}
use Rattle.std.specs.List.{prefix_len}

-- An element before the groups of those after it: it goes onto the first where that is its group.
abbrev pub put_first : {X : Type 0} → (X → X → Bool) → X → List (List X) → List (List X)
put_first alike x [] = (x ∷ []) ∷ []
put_first alike x ([] ∷ groups) = (x ∷ []) ∷ groups
put_first alike x ((y ∷ group) ∷ groups) = if alike x y then (x ∷ y ∷ group) ∷ groups else ((x ∷ []) ∷ (y ∷ group) ∷ groups)

-- the groups of a list, where those of a group stand one behind the other
abbrev pub groups_of : {X : Type 0} → (X → X → Bool) → List X → List (List X)
groups_of alike [] = []
groups_of alike (x ∷ xs) = put_first alike x (groups_of alike xs)

-- the first element, those from the front that stand in its group, and the others
pub record IsFirstGroup {X : Type 0} (alike : X → X → Bool) (xs : List X) (first : X) (group later : List X) : Type 0 where
  pub whole : xs ≡ group ++ later
  pub some : (rest : List X) × (group ≡ first ∷ rest)
  pub all : length group ≡ prefix_len (alike first) xs
