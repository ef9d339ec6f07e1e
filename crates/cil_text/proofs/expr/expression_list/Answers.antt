use Rattle.std.proofs.lemmas.Result.{IfOk-weaker}
use Rattle.cil_text.proofs.Common.{trees_of, AreExpressionList}
use Rattle.cil_text.proofs.Fitting.{in_a_list}
use Rattle.cil_text.proofs.expr.expression_list.Goals as goal

pub returns-in-Some : goal.returns-in-Some
returns-in-Some g c =
    let trees = trees_of c.args.trees in
    IfOk-weaker c.list_expression.result _ (AreExpressionList trees) (λ found h. in_a_list trees (trees_of c.in-Some.items) c.in-Some.ensures found h) c.list_expression.ensures

pub returns-in-None : goal.returns-in-None
returns-in-None g c expr h = c.in-None.ensures h.0 h.1
