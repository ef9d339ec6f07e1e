use Rattle.cil_resolve.proofs.Common.{◌≡◌, List, map, take, Word, WordExpr, leaves, Placed, attribute_set, IsIn, AreElements}
use Rattle.cil_specs.specs.Rule.{element_of}
use Rattle.cil_resolve.proofs.lowering.Lowering.set_elements.Given as goal

abbrev pub invariant-loop-k : goal.invariant-loop-k
invariant-loop-k g l = (policy : List Placed) (s : Placed) (attribute : Word) (expr : WordExpr) → IsIn l.self l.seen policy s → s.form ≡ attribute_set attribute expr
    → AreElements l.self.numbering.now.names.items l.elements.items (map (element_of policy s.namespace) (take l.k (leaves expr)))
