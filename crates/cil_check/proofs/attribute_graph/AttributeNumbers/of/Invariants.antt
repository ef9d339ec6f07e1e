use Rattle.cil_check.proofs.Common.{List, Placed, HaveNumbers, IsOf}
use Rattle.cil_check.proofs.attribute_graph.AttributeNumbers.of.Given as goal

-- the statements gone over have their numbers, and the attributes that they declare their places
abbrev pub invariant-loop-i : goal.invariant-loop-i
invariant-loop-i g l = (policy : List Placed) → IsOf l.bound policy → HaveNumbers policy l.i l.numbers.items l.places.items
