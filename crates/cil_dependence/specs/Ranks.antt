-- Ranks of nodes.
use Rattle.std.specs.Prelude.{◌≤◌, ℕ, List, slice_index, Vec}
use Rattle.cil_dependence.specs.Graph.{IsEdge}

-- no edge leads to a node of a larger rank
abbrev pub NeverRises : {A : Type 0} → List (Vec ℕ A) → List ℕ → Type 0
NeverRises graph ranks = (a b : ℕ) → IsEdge graph a b → slice_index ranks b ≤ slice_index ranks a
