-- The order of dependence, or the first node on a circle.
use Rattle.std.specs.Prelude.{◌≡◌, ◌<◌, ℕ, List, length, slice_index, Contains, Vec}
use Rattle.cil_dependence.specs.Graph.{IsEdge, Leads}
use Rattle.cil_dependence.specs.declared.order.Dependence.{Dependence}
use Rattle.cil_dependence.specs.declared.order.Dependence.TheVariants.{Order, Circle}

-- All nodes, each once, and each behind those that it has an edge to.
pub record IsOrder {A : Type 0} (graph : List (Vec ℕ A)) (order : List ℕ) : Type 0 where
  pub all : (node : ℕ) → node < length graph → Contains order node
  pub nodes : (i : ℕ) → i < length order → slice_index order i < length graph
  pub once : (i j : ℕ) → i < j → j < length order → slice_index order i ≡ slice_index order j → ⊥
  pub behind : (i j : ℕ) → i < length order → j < length order
      → IsEdge graph (slice_index order i) (slice_index order j) → j < i

-- it leads to itself
pub record IsCircular {A : Type 0} (graph : List (Vec ℕ A)) (node : ℕ) : Type 0 where
  pub within : node < length graph
  pub leads : Leads graph node node

-- and no node of a smaller number does
pub record IsFirst {A : Type 0} (graph : List (Vec ℕ A)) (node : ℕ) : Type 0 where
  pub is : IsCircular graph node
  pub first : (other : ℕ) → other < node → Leads graph other other → ⊥

-- the order, or some node that leads to itself
abbrev pub IsWalked : {A B : Type 0} → List (Vec ℕ A) → Dependence B → Type 0
IsWalked graph (Order order) = IsOrder graph order.items
IsWalked graph (Circle node) = IsCircular graph node

-- the order, or the first node that leads to itself
abbrev pub IsDependence : {A B : Type 0} → List (Vec ℕ A) → Dependence B → Type 0
IsDependence graph (Order order) = IsOrder graph order.items
IsDependence graph (Circle node) = IsFirst graph node

-- no node leads to itself
abbrev pub IsStraight : {A : Type 0} → List (Vec ℕ A) → Type 0
IsStraight graph = (node : ℕ) → Leads graph node node → ⊥
