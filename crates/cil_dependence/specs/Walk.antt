-- How far a walk in depth over a graph has come.
use Rattle.std.specs.Prelude.{◌≡◌, ◌+◌, ◌<◌, ◌≤◌, ℕ, List, [], ◌∷◌, ◌++◌, length, sum, sum_by, slice_get, slice_index, slice_index_or, Option, Some, MatchOption, Contains, Vec}
use Rattle.cil_dependence.specs.Dependence.{IsCircular}
use Rattle.cil_dependence.specs.Graph.{IsEdge, Leads}
use Rattle.cil_dependence.specs.declared.order.State.{State}
use Rattle.cil_dependence.specs.declared.order.State.TheVariants.{New, Open, Done}
use Rattle.cil_dependence.specs.declared.order.Walk.{Walk}

-- how many steps a node may still take: it is entered, and it is left
abbrev pub weight : State → ℕ
weight New = 2
weight Open = 1
weight Done = 0

-- The open nodes are those of the path, and the done ones those of the order. Of the edges of a node so many are left,
-- and the ones behind them lead to nodes that are done.
pub record IsWalk {A : Type 0} (graph : List (Vec ℕ A)) (states : List State) (left path order : List ℕ) : Type 0 where
  pub len : length states ≡ length graph
  pub len_left : length left ≡ length graph
  pub left_within : (u : ℕ) (to : Vec ℕ A) → slice_get graph u ≡ Some to → slice_index left u ≤ length to.items
  pub passed : (u k : ℕ) (to : Vec ℕ A) → slice_get graph u ≡ Some to
      → slice_index left u ≤ k → k < length to.items → slice_index_or states (slice_index to.items k) New ≡ Done
  pub leads : (i j : ℕ) → i < j → j < length path → Leads graph (slice_index path i) (slice_index path j)
  pub opened : (i : ℕ) → i < length path → slice_index_or states (slice_index path i) New ≡ Open
  pub on_path : (u : ℕ) → slice_index_or states u New ≡ Open → Contains path u
  pub apart : (i j : ℕ) → i < j → j < length path → slice_index path i ≡ slice_index path j → ⊥
  pub listed : (u : ℕ) → slice_index_or states u New ≡ Done → Contains order u
  pub done : (i : ℕ) → i < length order → slice_index_or states (slice_index order i) New ≡ Done
  pub once : (i j : ℕ) → i < j → j < length order → slice_index order i ≡ slice_index order j → ⊥
  pub behind : (i b : ℕ) → i < length order → IsEdge graph (slice_index order i) b
      → (j : ℕ) × (j < i) × (slice_index order j ≡ b)

-- the walk has come to a node
abbrev pub HasKnown : List State → ℕ → Type 0
HasKnown states u = slice_index_or states u New ≡ New → ⊥

abbrev pub EndsIn : List ℕ → ℕ → Type 0
EndsIn path node = (rest : List ℕ) × (path ≡ rest ++ node ∷ [])

-- old is new with the node behind it, where it ends in the node
abbrev pub IsPopped : List ℕ → List ℕ → ℕ → Type 0
IsPopped old new node = (rest : List ℕ) → old ≡ rest ++ node ∷ [] → new ≡ rest

-- a node on a circle, or where there is none, this fact
abbrev pub OrCircle : {A : Type 0} → List (Vec ℕ A) → Type 0 → Option ℕ → Type 0
OrCircle graph fact found = MatchOption found fact (IsCircular graph)

abbrev pub IsWalking : {A B : Type 0} → List (Vec ℕ A) → Walk B → Type 0
IsWalking graph walk = IsWalk graph walk.states.items walk.left.items walk.path.items walk.order.items

-- the walk still knows the nodes that it knew
abbrev pub StillKnows : {B : Type 0} → Walk B → Walk B → Type 0
StillKnows old new = (u : ℕ) → HasKnown old.states.items u → HasKnown new.states.items u

-- how many steps it may still take
abbrev pub steps_left : {B : Type 0} → Walk B → ℕ
steps_left walk = sum_by weight walk.states.items + sum walk.left.items

-- it has taken a step
pub record IsStepped {A B : Type 0} (graph : List (Vec ℕ A)) (old new : Walk B) : Type 0 where
  pub walk : IsWalking graph new
  pub known : StillKnows old new
  pub fewer : steps_left new < steps_left old

-- it has been over all that the root leads to
pub record IsVisited {A B : Type 0} (graph : List (Vec ℕ A)) (root : ℕ) (old new : Walk B) : Type 0 where
  pub walk : IsWalking graph new
  pub path : new.path.items ≡ []
  pub rooted : HasKnown new.states.items root
  pub known : StillKnows old new
