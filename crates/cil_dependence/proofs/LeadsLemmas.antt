-- Walks from one node to another.
use Rattle.cil_dependence.proofs.Common.{◌≡◌, ℕ, zero, suc, ◌<◌, ◌≤◌, List, [], ◌∷◌, ◌++◌, length, Option, Some, slice_get, Vec, All, Contains, MatchOption, sym, subst, arith, All-contains, IsEdge, AreNodes, LeadsThrough, Leads}

-- the edges of a node are its list
abbrev Has : {A : Type 0} → ℕ → Option (Vec ℕ A) → Type 0
Has b found = MatchOption found ⊥ (λ to. Contains to.items b)

pub edge-listed : {A : Type 0} (graph : List (Vec ℕ A)) (a b : ℕ) (to : Vec ℕ A) → slice_get graph a ≡ Some to → IsEdge graph a b → Contains to.items b
edge-listed graph a b to at edge = subst (Has b) at edge

pub listed-edge : {A : Type 0} (graph : List (Vec ℕ A)) (a b : ℕ) (to : Vec ℕ A) → slice_get graph a ≡ Some to → Contains to.items b → IsEdge graph a b
listed-edge graph a b to at has = subst (Has b) (sym at) has

pub leads-edge : {A : Type 0} (graph : List (Vec ℕ A)) (a b : ℕ) → IsEdge graph a b → Leads graph a b
leads-edge graph a b edge = ([], edge)

through-append : {A : Type 0} (graph : List (Vec ℕ A)) (first second : List ℕ) (a b c : ℕ) → LeadsThrough graph a first b → LeadsThrough graph b second c → LeadsThrough graph a (first ++ b ∷ second) c
through-append graph [] second a b c step more = (step, more)
through-append graph (x ∷ first) second a b c (step, rest) more = (step, through-append graph first second x b c rest more)

pub leads-join : {A : Type 0} (graph : List (Vec ℕ A)) (a b c : ℕ) → Leads graph a b → Leads graph b c → Leads graph a c
leads-join graph a b c (first, there) (second, more) = (first ++ b ∷ second, through-append graph first second a b c there more)

pub leads-within : {A : Type 0} (graph : List (Vec ℕ A)) (a b : ℕ) → AreNodes graph → Leads graph a b → b < length graph
leads-within graph a b nodes (between, there) = by between a there
  where
    by : (between : List ℕ) (a : ℕ) → LeadsThrough graph a between b → b < length graph
    by [] a edge = nodes a b edge
    by (x ∷ between) a (step, rest) = by between x rest

-- a property that each edge hands on
pub leads-keeps : {A : Type 0} (graph : List (Vec ℕ A)) (P : ℕ → Type 0) → ((a b : ℕ) → P a → IsEdge graph a b → P b) → (a b : ℕ) → P a → Leads graph a b → P b
leads-keeps graph P step a b p (between, there) = by between a p there
  where
    by : (between : List ℕ) (a : ℕ) → P a → LeadsThrough graph a between b → P b
    by [] a p edge = step a b p edge
    by (x ∷ between) a p (edge, rest) = by between x (step a x p edge) rest

-- an edge leads from a node
edge-from : {A : Type 0} (graph : List (Vec ℕ A)) (a b : ℕ) → IsEdge graph a b → a < length graph
edge-from [] a b edge = absurd edge
edge-from (to ∷ graph) zero b edge = omega arith
edge-from (to ∷ graph) (suc a) b edge = let less = edge-from graph a b edge in omega (arith, less)

-- what holds of the edges of each node holds of the edges of the graph
pub edges-all : {A : Type 0} (graph : List (Vec ℕ A)) (P : ℕ → ℕ → Type 0) (count : ℕ) → length graph ≤ count
    → ((a : ℕ) → a < count → (b : ℕ) → IsEdge graph a b → P a b) → (a b : ℕ) → IsEdge graph a b → P a b
edges-all graph P count all each a b edge = each a (let from = edge-from graph a b edge in omega (arith, from, all)) b edge

-- what holds of the list of a node holds of its edges
pub node-edges : {A : Type 0} (graph : List (Vec ℕ A)) (P : ℕ → Type 0) (a : ℕ) (to : Vec ℕ A) → slice_get graph a ≡ Some to
    → All P to.items → (b : ℕ) → IsEdge graph a b → P b
node-edges graph P a to at all b edge = All-contains P to.items b all (edge-listed graph a b to at edge)
