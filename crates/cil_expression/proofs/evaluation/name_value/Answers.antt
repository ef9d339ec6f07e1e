use Rattle.cil_expression.proofs.EvaluationLemmas.{name-value, no-name-value}
use Rattle.cil_expression.proofs.evaluation.name_value.Goals as goal

pub returns-in-Some-clause-value : goal.returns-in-Some-clause-value
returns-in-Some-clause-value g c =
    name-value (goal.F-post g c.args.known.now) c.args.rest.nodes.now c.args.rest.names.now c.in-Some.names.now c.in-Some.element.now c.known-holds.result
    c.in-Some.ensures.cases.0 c.known-holds.ensures

pub returns-in-None-clause-value : goal.returns-in-None-clause-value
returns-in-None-clause-value g c =
    no-name-value (goal.F-post g c.args.known.now) c.args.rest.nodes.now c.args.rest.names.now _ _ _ c.in-None.ensures.cases
