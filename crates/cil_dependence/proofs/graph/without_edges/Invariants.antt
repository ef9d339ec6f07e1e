use Rattle.std.proofs.Common.{◌≡◌, ℕ, length}
use Rattle.cil_dependence.specs.Graph.{IsEdge}
use Rattle.cil_dependence.proofs.graph.without_edges.Given as goal

-- so many nodes, without edges
abbrev pub invariant-loop : goal.invariant-loop
invariant-loop g l = record {
  nodes : length l.graph.items ≡ l.counter;
  none : (a b : ℕ) → IsEdge l.graph.items a b → ⊥;
}
