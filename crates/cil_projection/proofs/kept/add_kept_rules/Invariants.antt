use Rattle.std.proofs.Common.{◌≡◌, ◌++◌}
use Rattle.cil_reader.specs.Common.{trees_of}
use Rattle.cil_reader.proofs.Nodes.{tree_size}
use Rattle.cil_projection.specs.Pieces.{pieces_of}
use Rattle.cil_projection.specs.Statements.{kept_rules}
use Rattle.cil_projection.proofs.kept.add_kept_rules.Given as goal

abbrev pub invariant-loop-tree : goal.invariant-loop-tree
invariant-loop-tree g l = pieces_of l.pieces.items ++ kept_rules l.from (trees_of l.rest) l.to ≡ pieces_of l.fn.pieces.items ++ kept_rules l.fn.from (trees_of l.fn.rules) l.to

abbrev pub decreases-loop-tree : goal.decreases-loop-tree
decreases-loop-tree g l = tree_size (trees_of l.rest)
