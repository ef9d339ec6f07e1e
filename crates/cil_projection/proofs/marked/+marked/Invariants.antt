use Rattle.std.proofs.Common.{◌≡◌, ◌≤◌}
use Rattle.cil_reader.specs.Common.{trees_of}
use Rattle.cil_reader.proofs.Nodes.{tree_size}
use Rattle.cil_projection.specs.Statements.{first_marked}
use Rattle.cil_projection.proofs.marked.+marked.Given as goal

abbrev pub decreases-first_marked : goal.decreases-first_marked
decreases-first_marked l = tree_size (trees_of l.trees)

abbrev pub invariant-loop-tree : goal.invariant-loop-tree
invariant-loop-tree l = record {
  first : first_marked (trees_of l.rest) ≡ first_marked (trees_of l.trees);
  smaller : tree_size (trees_of l.rest) ≤ tree_size (trees_of l.trees);
}

abbrev pub decreases-loop-tree : goal.decreases-loop-tree
decreases-loop-tree l = tree_size (trees_of l.rest)
