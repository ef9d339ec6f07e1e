use Rattle.std.proofs.Common.{◌≡◌, ◌++◌, ◌≤◌}
use Rattle.cil_reader.specs.Common.{trees_of}
use Rattle.cil_reader.proofs.Nodes.{tree_size}
use Rattle.cil_projection.specs.Pieces.{pieces_of}
use Rattle.cil_projection.specs.Conditions.{settings_of}
use Rattle.cil_projection.specs.Statements.{projected}
use Rattle.cil_projection.proofs.statement.Projector.+statements.Given as goal

abbrev pub decreases-add_statements : goal.decreases-add_statements
decreases-add_statements g l = tree_size (trees_of l.trees)

abbrev pub decreases-add_one : goal.decreases-add_one
decreases-add_one g l = tree_size (trees_of l.items)

abbrev pub decreases-add_body : goal.decreases-add_body
decreases-add_body g l = tree_size (trees_of l.arguments)

abbrev pub decreases-add_tunable : goal.decreases-add_tunable
decreases-add_tunable g l = tree_size (trees_of l.arguments)

abbrev pub decreases-add_branch : goal.decreases-add_branch
decreases-add_branch g l = tree_size (trees_of l.branches)

abbrev pub invariant-add_statements-loop-tree : goal.invariant-add_statements-loop-tree
invariant-add_statements-loop-tree g l = record {
  added : pieces_of l.pieces.items ++ projected (settings_of l.self.booleans.now) l.stays l.from (trees_of l.rest) l.span.to
      ≡ pieces_of l.fn.pieces.items ++ projected (settings_of l.self.booleans.now) l.stays l.span.from (trees_of l.trees) l.span.to;
  smaller : tree_size (trees_of l.rest) ≤ tree_size (trees_of l.trees);
}

abbrev pub decreases-add_statements-loop-tree : goal.decreases-add_statements-loop-tree
decreases-add_statements-loop-tree g l = tree_size (trees_of l.rest)
