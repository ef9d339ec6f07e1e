use Rattle.std.proofs.Common.{◌≡◌}
use Rattle.cil_reader.specs.Common.{trees_of}
use Rattle.cil_reader.proofs.Nodes.{tree_size}
use Rattle.cil_projection.specs.Conditions.{branch_for}
use Rattle.cil_projection.proofs.branches.branch_for.Given as goal

abbrev pub invariant-loop-tree : goal.invariant-loop-tree
invariant-loop-tree l = branch_for l.holds (trees_of l.rest) ≡ branch_for l.holds (trees_of l.branches)

abbrev pub decreases-loop-tree : goal.decreases-loop-tree
decreases-loop-tree l = tree_size (trees_of l.rest)
