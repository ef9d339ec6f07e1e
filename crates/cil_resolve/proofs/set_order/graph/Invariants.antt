use Rattle.cil_resolve.proofs.Common.{◌≡◌, ◌↔◌, ℕ, length, take, IsEdge, IsNext}
use Rattle.cil_resolve.proofs.set_order.graph.Given as goal

-- the statements gone over have their edges
abbrev pub invariant-loop-set : goal.invariant-loop-set
invariant-loop-set g l = record {
  nodes : length l.graph.items ≡ l.names;
  edges : (a b : ℕ) → IsEdge l.graph.items a b ↔ IsNext (take l.set-index l.sets) a b;
}
