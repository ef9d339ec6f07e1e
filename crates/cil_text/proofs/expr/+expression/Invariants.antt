use Rattle.cil_text.proofs.Common.{◌+◌, ◌*◌, ◌≤◌, none, trees_of, tree_then}
use Rattle.cil_reader.proofs.Nodes.{tree_size}
use Rattle.cil_text.proofs.Elements.{HasFound}
use Rattle.cil_text.proofs.expr.+expression.Given as goal

abbrev pub decreases-expression : goal.decreases-expression
decreases-expression g l = 4 * tree_size (tree_then l.tree none)

abbrev pub decreases-elements : goal.decreases-elements
decreases-elements g l = 4 * tree_size (trees_of l.trees) + 1

abbrev pub decreases-operand : goal.decreases-operand
decreases-operand g l = 4 * tree_size (tree_then l.tree none) + 1

abbrev pub decreases-one_operand : goal.decreases-one_operand
decreases-one_operand g l = 4 * tree_size (trees_of l.operands) + 2

abbrev pub decreases-two_operands : goal.decreases-two_operands
decreases-two_operands g l = 4 * tree_size (trees_of l.operands) + 2

abbrev pub decreases-operation : goal.decreases-operation
decreases-operation g l = 4 * tree_size (trees_of l.operands) + 3

abbrev pub decreases-list_expression : goal.decreases-list_expression
decreases-list_expression g l = 4 * tree_size (trees_of l.items) + 3

abbrev pub invariant-elements-loop-tree : goal.invariant-elements-loop-tree
invariant-elements-loop-tree g l = record {
  found : HasFound (trees_of l.trees) (trees_of l.rest) l.elements.items;
  smaller : tree_size (trees_of l.rest) ≤ tree_size (trees_of l.trees);
}

abbrev pub decreases-elements-loop-tree : goal.decreases-elements-loop-tree
decreases-elements-loop-tree g l = tree_size (trees_of l.rest)
