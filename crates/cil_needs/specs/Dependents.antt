-- Which needs each node can meet.
use Rattle.std.specs.Prelude.{◌≡◌, ◌≤◌, ℕ, List, [], ◌∷◌, ◌++◌, length, slice_get, Option, None, Some, Contains, All}
use Rattle.cil_needs.specs.Needs.{meeting}
use Rattle.cil_needs.specs.declared.dependents.Dependent.{Dependent}
use Rattle.cil_needs.specs.declared.greatest.Need.{Need}

abbrev pub node_of : Dependent → ℕ
node_of d = d.node

abbrev pub dependent : ℕ → ℕ → Dependent
dependent o i = record { node = o; need = i }

-- a node and a need, if there is a node
abbrev pub dependents_of_node : Option ℕ → ℕ → List Dependent
dependents_of_node None i = []
dependents_of_node (Some o) i = dependent o i ∷ []

-- a node can meet the need of a place
abbrev pub IsDependent : List Dependent → ℕ → ℕ → Type 0
IsDependent dependents o i = Contains dependents (dependent o i)

-- each need stands with each node that meets it
abbrev pub AreDependents : List Dependent → List Need → Type 0
AreDependents dependents needs = (i : ℕ) (need : Need) → slice_get needs i ≡ Some need → All (λ o. IsDependent dependents o i) (meeting need)

-- behind those that are open stand the needs that a node can meet
pub record AreReopened (dependents : List Dependent) (o : ℕ) (old new : List ℕ) : Type 0 where
  pub more : List ℕ
  pub is : new ≡ old ++ more
  pub few : length more ≤ length dependents
  pub all : (i : ℕ) → IsDependent dependents o i → Contains more i
  pub within : (i : ℕ) → Contains more i → IsDependent dependents o i
