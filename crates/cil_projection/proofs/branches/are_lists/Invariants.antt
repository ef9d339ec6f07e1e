use Rattle.std.proofs.Common.{◌≡◌}
use Rattle.cil_specs.specs.Trees.{are_lists}
use Rattle.cil_reader.specs.Common.{trees_of}
use Rattle.cil_reader.proofs.Nodes.{tree_size}
use Rattle.cil_projection.proofs.branches.are_lists.Given as goal

abbrev pub invariant-loop-items : goal.invariant-loop-items
invariant-loop-items l = are_lists (trees_of l.rest) ≡ are_lists (trees_of l.trees)

abbrev pub decreases-loop-items : goal.decreases-loop-items
decreases-loop-items l = tree_size (trees_of l.rest)
