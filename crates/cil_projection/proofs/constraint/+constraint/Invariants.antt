use Rattle.std.proofs.Common.{◌≤◌, ◌+◌, ◌*◌}
use Rattle.cil_reader.specs.Common.{trees_of}
use Rattle.cil_reader.proofs.Nodes.{tree_size}
use Rattle.cil_projection.specs.Forms.{constraints}
use Rattle.cil_projection.proofs.FormLemmas.{Completes}
use Rattle.cil_projection.proofs.constraint.+constraint.Given as goal

abbrev pub decreases-add_constraints : goal.decreases-add_constraints
decreases-add_constraints g l = 2 * tree_size (trees_of l.trees)

abbrev pub decreases-add_constraint : goal.decreases-add_constraint
decreases-add_constraint g l = 2 * tree_size (trees_of l.items) + 1

abbrev pub invariant-add_constraints-loop-tree : goal.invariant-add_constraints-loop-tree
invariant-add_constraints-loop-tree g l = record {
  completes : Completes l.fn.pieces.items (constraints (trees_of l.trees)) l.pieces.items (constraints (trees_of l.rest));
  smaller : tree_size (trees_of l.rest) ≤ tree_size (trees_of l.trees);
}

abbrev pub decreases-add_constraints-loop-tree : goal.decreases-add_constraints-loop-tree
decreases-add_constraints-loop-tree g l = tree_size (trees_of l.rest)
