-- What is around the statements of a module, by the numbers of the innermost block and of the innermost optional.
use Rattle.std.specs.Prelude.{◌≡◌, ℕ, zero, suc, ◌+◌, ◌<◌, List, [], ◌∷◌, slice_get, Some}
use Rattle.cil_specs.specs.Names.{Word}
use Rattle.cil_specs.specs.Statements.{block, optional}
use Rattle.cil_specs.specs.Joined.{Placed}
use Rattle.cil_parse.specs.Flat.{FlatStatement}

-- The number is that of the innermost block of a namespace: 0 for the global one, and else the block's index in front of another, and 1
-- more.
abbrev pub IsBlockOf : List Placed → ℕ → ℕ → List (List ℕ) → Type 0
IsBlockOf all index zero namespace = namespace ≡ []
IsBlockOf all index (suc k) namespace = (outer : Placed) × (id : Word) × (k < index) × (slice_get all k ≡ Some outer) × (outer.form ≡ block id) × (namespace ≡ id.text ∷ outer.namespace)

-- the number is that of the innermost of optionals
abbrev pub IsOptionalOf : List Placed → ℕ → ℕ → List ℕ → Type 0
IsOptionalOf all index zero optionals = optionals ≡ []
IsOptionalOf all index (suc k) optionals = (outer : Placed) × (id : Word) × (k < index) × (slice_get all k ≡ Some outer) × (outer.form ≡ optional id) × (optionals ≡ outer.at.offset ∷ outer.optionals)

-- the statement of an index is this one of the joined policy
pub record IsPlacedAs (all : List Placed) (index : ℕ) (f : FlatStatement) (s : Placed) : Type 0 where
  pub at : s.at ≡ f.at
  pub form : s.form ≡ f.form
  pub is_block : IsBlockOf all index f.block s.namespace
  pub is_optional : IsOptionalOf all index f.optional s.optionals

-- the statements from an index on are these, one by one
abbrev pub ArePlacedAs : List Placed → ℕ → List FlatStatement → List Placed → Type 0
ArePlacedAs all index [] [] = Unit {0}
ArePlacedAs all index [] (s ∷ statements) = ⊥
ArePlacedAs all index (f ∷ list) [] = ⊥
ArePlacedAs all index (f ∷ list) (s ∷ statements) = IsPlacedAs all index f s × ArePlacedAs all (index + 1) list statements
