use Rattle.cil_parse.proofs.Common.{[], false, subst, Shapes, IsFirstShapeFault, FaultIs, forest_of, IsFirstAmong, fault_weaker, trees_of}
use Rattle.std.proofs.lemmas.Result.{on_ok_weaker, IfErr-weaker}
use Rattle.cil_parse.proofs.builder.Builder.go_over.Goals as goal

pub returns-clause-ok : goal.returns-clause-ok
returns-clause-ok g c =
    on_ok_weaker c.take.result
    (λ came at. record { statements = came.statements; shapes = subst (λ trees. Shapes false trees came.statements) c.trees.ensures came.shapes; at = came.places.goes [] at }) c.take.ensures.ok

pub returns-clause-err : goal.returns-clause-err
returns-clause-err g c =
    let trees = forest_of c.args.forest in
    IfErr-weaker c.take.result (λ fault. FaultIs fault (IsFirstAmong false (trees_of c.trees.result))) (λ fault. FaultIs fault (IsFirstShapeFault trees))
    (λ fault found. fault_weaker (IsFirstAmong false trees) (IsFirstShapeFault trees) fault (λ f h. record { is = h.is; first = h.first 0 16777216 c.args.forest.ordered })
    (subst (λ trees. FaultIs fault (IsFirstAmong false trees)) c.trees.ensures found)) c.take.ensures.err
