use Rattle.std.proofs.Common.{◌+◌, ◌*◌, ◌≤◌, length}
use Rattle.cil_expression.proofs.EvaluationLemmas.{GoesOver}
use Rattle.cil_expression.proofs.evaluation.+value.Given as goal

abbrev pub decreases-value : goal.decreases-value
decreases-value g l = 4 * length l.rest.nodes.now

abbrev pub decreases-next_value : goal.decreases-next_value
decreases-next_value g l = 4 * length l.rest.nodes.now + 1

abbrev pub decreases-two_values : goal.decreases-two_values
decreases-two_values g l = 4 * length l.rest.nodes.now + 2

abbrev pub decreases-operation : goal.decreases-operation
decreases-operation g l = 4 * length l.rest.nodes.now + 3

abbrev pub invariant-value-loop-behind : goal.invariant-value-loop-behind
invariant-value-loop-behind g l = record {
  shorter : length l.left.nodes.now ≤ length l.rest.nodes.now;
  goes : GoesOver (goal.F-post g l.known) l.rest.nodes.now l.rest.names.now l.holds l.left.nodes.now l.left.names.now;
}

abbrev pub decreases-value-loop-behind : goal.decreases-value-loop-behind
decreases-value-loop-behind g l = length l.left.nodes.now
