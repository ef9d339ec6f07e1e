use Rattle.std.proofs.Common.{◌≡◌, ◌≤◌}
use Rattle.cil_reader.specs.Common.{trees_of}
use Rattle.cil_reader.proofs.Nodes.{tree_size}
use Rattle.cil_projection.specs.Forms.{has_no_string}
use Rattle.cil_projection.proofs.names.+strings.Given as goal

abbrev pub decreases-has_no_string : goal.decreases-has_no_string
decreases-has_no_string l = tree_size (trees_of l.trees)

abbrev pub invariant-loop-tree : goal.invariant-loop-tree
invariant-loop-tree l = record {
  as_all : has_no_string (trees_of l.rest) ≡ has_no_string (trees_of l.trees);
  smaller : tree_size (trees_of l.rest) ≤ tree_size (trees_of l.trees);
}

abbrev pub decreases-loop-tree : goal.decreases-loop-tree
decreases-loop-tree l = tree_size (trees_of l.rest)
