use Rattle.std.proofs.Common.{◌≤◌, ◌+◌, ◌*◌}
use Rattle.cil_specs.specs.Trees.{none}
use Rattle.cil_reader.specs.Common.{tree_then, trees_of}
use Rattle.cil_reader.proofs.Nodes.{tree_size}
use Rattle.cil_projection.specs.Conditions.{settings_of, values}
use Rattle.cil_projection.proofs.ValueLemmas.{CompletesValues}
use Rattle.cil_projection.proofs.condition.+condition.Given as goal

abbrev pub decreases-add_values : goal.decreases-add_values
decreases-add_values g l = 3 * tree_size (trees_of l.trees) + 1

abbrev pub invariant-add_values-loop-tree : goal.invariant-add_values-loop-tree
invariant-add_values-loop-tree g l = record {
  completes : CompletesValues l.fn.found.items (values (settings_of l.booleans).value (trees_of l.trees)) l.found.items (values (settings_of l.booleans).value (trees_of l.rest));
  smaller : tree_size (trees_of l.rest) ≤ tree_size (trees_of l.trees);
}

abbrev pub decreases-add_values-loop-tree : goal.decreases-add_values-loop-tree
decreases-add_values-loop-tree g l = tree_size (trees_of l.rest)

abbrev pub decreases-list_value : goal.decreases-list_value
decreases-list_value g l = 3 * tree_size (trees_of l.items) + 2

abbrev pub decreases-applied_value : goal.decreases-applied_value
decreases-applied_value g l = 3 * tree_size (trees_of l.operands) + 2

abbrev pub decreases-value : goal.decreases-value
decreases-value g l = 3 * tree_size (tree_then l.tree none)
