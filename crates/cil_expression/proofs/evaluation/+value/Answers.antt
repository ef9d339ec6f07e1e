use Rattle.std.proofs.Common.{◌≡◌, ◌∷◌, List, sym, subst, arith, rules}
use Rattle.cil_parse.specs.declared.row.SetNode.{SetNode}
use Rattle.cil_expression.specs.Evaluation.{IsValue}
use Rattle.cil_expression.proofs.EvaluationLemmas.{at-node, in-place, all-value, nothing-value, not-value, and-value, or-value, xor-value, two-values, goes-first, goes-next, goes-end, none-left}
use Rattle.cil_expression.proofs.evaluation.+value.Goals as goal

pub operation-returns-in-All-clause-value : goal.operation-returns-in-All-clause-value
operation-returns-in-All-clause-value g t c =
    let known = goal.F-post g c.args.known.now in
    let rest = c.args.rest in
    at-node known _ _ rest.nodes.now rest.names.now _ _ _ c.in-All.is (all-value known rest.nodes.now rest.names.now)

pub operation-returns-in-Name-clause-value : goal.operation-returns-in-Name-clause-value
operation-returns-in-Name-clause-value g t c =
    let known = goal.F-post g c.args.known.now in
    let rest = c.args.rest in
    at-node known _ _ rest.nodes.now rest.names.now _ _ _ c.in-Name.is c.name_value.ensures.value

pub operation-returns-in-Not-clause-value : goal.operation-returns-in-Not-clause-value
operation-returns-in-Not-clause-value g t c =
    let known = goal.F-post g c.args.known.now in
    let rest = c.args.rest in
    at-node known _ _ rest.nodes.now rest.names.now _ _ _ c.in-Not.is (not-value known rest.nodes.now rest.names.now _ _ _ c.next_value-x.ensures.value)

pub operation-returns-in-And-clause-value : goal.operation-returns-in-And-clause-value
operation-returns-in-And-clause-value g t c =
    let known = goal.F-post g c.args.known.now in
    let rest = c.args.rest in
    at-node known _ _ rest.nodes.now rest.names.now _ _ _ c.in-And.is (and-value known rest.nodes.now rest.names.now _ _ _ _ c.two_values-x.ensures.values)

pub operation-returns-in-Or-clause-value : goal.operation-returns-in-Or-clause-value
operation-returns-in-Or-clause-value g t c =
    let known = goal.F-post g c.args.known.now in
    let rest = c.args.rest in
    at-node known _ _ rest.nodes.now rest.names.now _ _ _ c.in-Or.is (or-value known rest.nodes.now rest.names.now _ _ _ _ c.two_values-x-in-Or.ensures.values)

pub operation-returns-in-Xor-clause-value : goal.operation-returns-in-Xor-clause-value
operation-returns-in-Xor-clause-value g t c =
    let known = goal.F-post g c.args.known.now in
    let rest = c.args.rest in
    at-node known _ _ rest.nodes.now rest.names.now _ _ _ c.in-Xor.is (xor-value known rest.nodes.now rest.names.now _ _ _ _ c.two_values-x-in-Xor.ensures.values)

pub operation-returns-in-Nothing-clause-value : goal.operation-returns-in-Nothing-clause-value
operation-returns-in-Nothing-clause-value g t c =
    let known = goal.F-post g c.args.known.now in
    let rest = c.args.rest in
    at-node known _ _ rest.nodes.now rest.names.now _ _ _ c.in-Nothing.is (nothing-value known rest.nodes.now rest.names.now)

pub two_values-returns-clause-values : goal.two_values-returns-clause-values
two_values-returns-clause-values g t c =
    two-values (goal.F-post g c.args.known.now) c.args.rest.nodes.now c.args.rest.names.now _ c.next_value-x.result.1.nodes.now c.next_value-x.result.1.names.now _ _ _ c.next_value-x.ensures.value
    c.next_value-y.ensures.value

pub value-loop-behind-init : goal.value-loop-behind-init
value-loop-behind-init g t c =
    record { shorter = omega arith; goes = goes-first (goal.F-post g c.args.known.now) c.args.rest.nodes.now c.args.rest.names.now }

pub value-loop-behind-preserved : goal.value-loop-behind-preserved
value-loop-behind-preserved g t c =
    let left = c.loop-behind.left in
    record {
      shorter = search rules;
      goes =
          goes-next (goal.F-post g c.args.known.now) c.args.rest.nodes.now c.args.rest.names.now c.loop-behind.holds left.nodes.now left.names.now
          c.in-Some.behind.nodes.now c.in-Some.behind.names.now _ _ _ c.loop-behind.invariant.goes c.in-Some.ensures.0 c.in-Some.ensures.1 c.next_value-element.ensures.value;
    }

pub value-returns-in-Some-split_first-clause-value :
    goal.value-returns-in-Some-split_first-clause-value
value-returns-in-Some-split_first-clause-value g t c =
    let known = goal.F-post g c.args.known.now in
    let left = c.loop-behind.left in
    let here : (left.nodes.now ≡ c.in-Some-split_first.node.now ∷ c.in-Some-split_first.nodes.now) = c.in-Some-split_first.ensures.cases.0 in
    goes-end known c.args.rest.nodes.now c.args.rest.names.now c.loop-behind.holds left.nodes.now left.names.now _ _ _ c.loop-behind.invariant.goes
    (subst (λ (l : List SetNode). IsValue known l left.names.now c.operation-last.result.0 c.operation-last.result.1.nodes.now c.operation-last.result.1.names.now) (sym here) c.operation-last.ensures.value)

pub value-returns-in-None-clause-value : goal.value-returns-in-None-clause-value
value-returns-in-None-clause-value g t c =
    let left = c.loop-behind.left in
    none-left (goal.F-post g c.args.known.now) c.args.rest.nodes.now c.args.rest.names.now c.loop-behind.holds left.nodes.now left.names.now _ _ c.loop-behind.invariant.goes
    c.in-None.ensures.cases

pub next_value-returns-in-Some-clause-value : goal.next_value-returns-in-Some-clause-value
next_value-returns-in-Some-clause-value g t c =
    let rest = c.args.rest in
    in-place (goal.F-post g c.args.known.now) rest.nodes.now _ rest.names.now _ _ _ _ c.in-Some.ensures.0 c.in-Some.ensures.1 c.name_value.ensures.value
