use Rattle.std.proofs.Common.{◌≡◌, ◌++◌, ◌≤◌}
use Rattle.cil_reader.specs.Common.{trees_of}
use Rattle.cil_reader.proofs.Nodes.{tree_size}
use Rattle.cil_projection.specs.Pieces.{pieces_of}
use Rattle.cil_projection.specs.Forms.{operands_in}
use Rattle.cil_projection.proofs.names.+operands.Given as goal

abbrev pub decreases-add_operands : goal.decreases-add_operands
decreases-add_operands g l = tree_size (trees_of l.trees)

abbrev pub invariant-loop-tree : goal.invariant-loop-tree
invariant-loop-tree g l = record {
  added : pieces_of l.pieces.items ++ operands_in l.operand (trees_of l.rest) ≡ pieces_of l.fn.pieces.items ++ operands_in l.operand (trees_of l.trees);
  smaller : tree_size (trees_of l.rest) ≤ tree_size (trees_of l.trees);
}

abbrev pub decreases-loop-tree : goal.decreases-loop-tree
decreases-loop-tree g l = tree_size (trees_of l.rest)
