use Rattle.cil_check.proofs.Common.{◌≡◌, List, length, take, Placed, HaveNumbers, IsOf}
use Rattle.cil_check.proofs.GraphLemmas.{HasEdges}
use Rattle.cil_check.proofs.attribute_graph.AttributeNumbers.graph.Given as goal

-- the statements gone over have their edges
abbrev pub invariant-loop-i : goal.invariant-loop-i
invariant-loop-i g l = record {
  nodes : length l.graph.items ≡ length l.self.places.items;
  edges : (policy : List Placed) → IsOf l.bound policy → HaveNumbers policy (length policy) l.self.numbers.items l.self.places.items → HasEdges policy (take l.i policy) l.graph.items;
}
