use Rattle.cil_text.proofs.Common.{subst, false, statement_offsets, Shapes, IsFirstShapeFault, rise_from_is, shapes_rise, shapes_apart, statements_of, FaultIs, IsFirstAmong}
use Rattle.cil_reader.specs.Forest.{forest_of}
use Rattle.cil_text.proofs.FirstBad.{handed_on, fault_weaker}
use Rattle.cil_text.proofs.walk.shape.Goals as goal

pub returns-in_err-statements-clause-err : goal.returns-in_err-statements-clause-err
returns-in_err-statements-clause-err g c =
    let trees = forest_of c.args.forest in
    let fault = c.in_err-statements.field-0.0 in
    let found = subst (λ trees. FaultIs fault (IsFirstAmong false trees)) c.trees.ensures c.in_err-statements.ensures.err in
    handed_on (IsFirstShapeFault trees) c.from_residual.result fault c.from_residual.ensures.1
    (fault_weaker (IsFirstAmong false trees) (IsFirstShapeFault trees) fault (λ f h. record { is = h.is; first = h.first 0 16777216 c.args.forest.ordered }) found)

pub invariant_of-result : goal.invariant_of-result
invariant_of-result g c =
    let trees = forest_of c.args.forest in
    let statements = statements_of c.in_ok-statements.statements.items in
    let shapes = subst (λ trees. Shapes false trees statements) c.trees.ensures c.in_ok-statements.ensures.ok in
    record { ordered = rise_from_is 0 (statement_offsets statements) 16777216 (shapes_rise statements false trees 0 16777216 shapes c.args.forest.ordered); apart = shapes_apart statements false trees shapes }
