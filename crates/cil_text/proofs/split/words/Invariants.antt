use Rattle.cil_text.specs.Image.{trees_of}
use Rattle.cil_reader.proofs.Nodes.{tree_size}
use Rattle.cil_text.proofs.WordLists.{AreSoFar}
use Rattle.cil_text.proofs.split.words.Given as goal

abbrev pub invariant-loop-tree : goal.invariant-loop-tree
invariant-loop-tree g l = AreSoFar (trees_of l.trees) (trees_of l.rest) l.words.items

abbrev pub decreases-loop-tree : goal.decreases-loop-tree
decreases-loop-tree g l = tree_size (trees_of l.rest)
