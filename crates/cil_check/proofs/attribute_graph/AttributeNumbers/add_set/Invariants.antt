use Rattle.cil_check.proofs.Common.{◌≡◌, List, Some, length, Placed, kind_of, HaveNumbers, IsOf}
use Rattle.std.proofs.Common.{slice_get}
use Rattle.cil_parse.specs.declared.row.StatementKind.TheVariants.{TypeAttributeSet}
use Rattle.cil_check.proofs.GraphLemmas.{HasWords}
use Rattle.cil_check.proofs.attribute_graph.AttributeNumbers.add_set.Given as goal

-- the words gone over have their edges
abbrev pub invariant-loop-k : goal.invariant-loop-k
invariant-loop-k g l = record {
  nodes : length l.graph.items ≡ length l.initial.graph.items;
  edges : (policy : List Placed) (s : Placed) → IsOf l.bound policy → HaveNumbers policy (length policy) l.self.numbers.items l.self.places.items → slice_get policy l.i ≡ Some s
      → kind_of s.form ≡ TypeAttributeSet → HasWords policy s l.from l.k l.initial.graph.items l.graph.items;
}
