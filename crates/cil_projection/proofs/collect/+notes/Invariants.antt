use Rattle.std.proofs.Common.{◌≡◌, ◌≤◌}
use Rattle.cil_reader.specs.Common.{trees_of}
use Rattle.cil_reader.proofs.Nodes.{tree_size}
use Rattle.cil_projection.specs.Conditions.{declarations, declared_behind_condition, declared_in_branches, noted_all}
use Rattle.cil_projection.proofs.collect.+notes.Given as goal

abbrev pub decreases-note_trees : goal.decreases-note_trees
decreases-note_trees g l = tree_size (trees_of l.trees)

abbrev pub invariant-note_trees-loop-tree : goal.invariant-note_trees-loop-tree
invariant-note_trees-loop-tree g l = record {
  noted : noted_all l.booleans (declarations (trees_of l.rest)) ≡ noted_all l.fn.booleans (declarations (trees_of l.trees));
  smaller : tree_size (trees_of l.rest) ≤ tree_size (trees_of l.trees);
}

abbrev pub decreases-note_trees-loop-tree : goal.decreases-note_trees-loop-tree
decreases-note_trees-loop-tree g l = tree_size (trees_of l.rest)

abbrev pub decreases-note_behind_condition : goal.decreases-note_behind_condition
decreases-note_behind_condition g l = tree_size (trees_of l.arguments)

abbrev pub invariant-note_behind_condition-loop-branch : goal.invariant-note_behind_condition-loop-branch
invariant-note_behind_condition-loop-branch g l = record {
  noted : noted_all l.booleans (declared_in_branches (trees_of l.rest)) ≡ noted_all l.fn.booleans (declared_behind_condition (trees_of l.fn.arguments));
  smaller : tree_size (trees_of l.rest) ≤ tree_size (trees_of l.fn.arguments);
}

abbrev pub decreases-note_behind_condition-loop-branch : goal.decreases-note_behind_condition-loop-branch
decreases-note_behind_condition-loop-branch g l = tree_size (trees_of l.rest)

abbrev pub decreases-note_statement : goal.decreases-note_statement
decreases-note_statement g l = tree_size (trees_of l.items)

abbrev pub decreases-note_inside : goal.decreases-note_inside
decreases-note_inside g l = tree_size (trees_of l.trees)
