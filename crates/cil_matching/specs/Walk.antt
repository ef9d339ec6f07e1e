-- Set statements of two policies, side by side.
use Rattle.std.specs.Prelude.{◌≡◌, ℕ, List, Some, map, slice_get}
use Rattle.cil_resolve.specs.SetOrder.{sets_at}
use Rattle.cil_resolve.specs.Sets.{sets_in}
use Rattle.cil_resolve.specs.declared.numbered.NumberedSet.{NumberedSet}
use Rattle.cil_resolve.specs.declared.resolved.Resolved.{Resolved}
use Rattle.cil_matching.specs.Spot.{Spot, set_spot}

-- the set statements in the order of their dependence, by the numbers of their names
abbrev pub numbered_in : {A : Type 0} → Resolved A → List (NumberedSet A)
numbered_in r = sets_at r.sets.sets.items r.sets.order.items

-- the set statement at the one place stands where that at the other does
abbrev pub StandAlike : {A : Type 0} → Resolved A → Resolved A → ℕ → ℕ → Type 0
StandAlike old new i j = (p : Spot) → slice_get (map set_spot (sets_in old)) i ≡ Some p → slice_get (map set_spot (sets_in new)) j ≡ Some p
