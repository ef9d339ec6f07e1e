-- Two lists in one strict order, gone along side by side.
use Rattle.std.specs.Prelude.{◌≡◌, ℕ, ◌<◌, List, Some, length, slice_get}
use Rattle.std.specs.declared.cmp.Ordering.{Ordering}
use Rattle.std.specs.declared.cmp.Ordering.TheVariants.{Less, Equal}

-- The first j of a new list stand before the one at place i of an old one, if there is one.
abbrev pub AreBefore : {X : Type 0} → (X → X → Ordering) → List X → List X → ℕ → ℕ → Type 0
AreBefore {X} R old new i j = (k : ℕ) (x y : X) → k < j → slice_get old i ≡ Some x → slice_get new k ≡ Some y → R y x ≡ Less

-- The one at place j is alike with that at place i, and those in front of it stand before.
pub record IsFoundAt {X : Type 0} (R : X → X → Ordering) (old new : List X) (i j : ℕ) : Type 0 where
  pub within : j < length new
  pub before : AreBefore R old new i j
  pub alike : (x y : X) → slice_get old i ≡ Some x → slice_get new j ≡ Some y → R y x ≡ Equal

-- None is alike with the one at place i, and the first j stand before it.
pub record IsMissedAt {X : Type 0} (R : X → X → Ordering) (old new : List X) (i j : ℕ) : Type 0 where
  pub before : AreBefore R old new i j
  pub never : (k : ℕ) (x y : X) → slice_get old i ≡ Some x → slice_get new k ≡ Some y → R y x ≡ Equal → ⊥
