use Rattle.cil_text.proofs.Common.{◌≡◌, are_lists, trees_of}
use Rattle.cil_reader.proofs.Nodes.{tree_size}
use Rattle.cil_text.proofs.split.are_lists.Given as goal

abbrev pub invariant-loop-tree : goal.invariant-loop-tree
invariant-loop-tree l = are_lists (trees_of l.trees) ≡ are_lists (trees_of l.rest)

abbrev pub decreases-loop-tree : goal.decreases-loop-tree
decreases-loop-tree l = tree_size (trees_of l.rest)
