-- Nodes by their numbers: a graph has for each of them the list of those that it has an edge to.
use Rattle.std.specs.Prelude.{◌<◌, ℕ, List, [], ◌∷◌, length, slice_get, MatchOption, Contains, Vec}

abbrev pub IsEdge : {A : Type 0} → List (Vec ℕ A) → ℕ → ℕ → Type 0
IsEdge graph a b = MatchOption (slice_get graph a) ⊥ (λ to. Contains to.items b)

-- each edge leads to a node
abbrev pub AreNodes : {A : Type 0} → List (Vec ℕ A) → Type 0
AreNodes graph = (a b : ℕ) → IsEdge graph a b → b < length graph

-- one node leads to another by way of these
abbrev pub LeadsThrough : {A : Type 0} → List (Vec ℕ A) → ℕ → List ℕ → ℕ → Type 0
LeadsThrough graph a [] b = IsEdge graph a b
LeadsThrough graph a (x ∷ between) b = IsEdge graph a x × LeadsThrough graph x between b

-- in one or more steps
abbrev pub Leads : {A : Type 0} → List (Vec ℕ A) → ℕ → ℕ → Type 0
Leads graph a b = (between : List ℕ) × LeadsThrough graph a between b
