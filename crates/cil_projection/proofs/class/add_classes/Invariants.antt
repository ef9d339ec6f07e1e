use Rattle.cil_reader.specs.Common.{trees_of}
use Rattle.cil_reader.proofs.Nodes.{tree_size}
use Rattle.cil_projection.specs.Forms.{classes_in}
use Rattle.cil_projection.proofs.FormLemmas.{Completes}
use Rattle.cil_projection.proofs.class.add_classes.Given as goal

abbrev pub invariant-loop-tree : goal.invariant-loop-tree
invariant-loop-tree g l = Completes l.fn.pieces.items (classes_in (trees_of l.fn.trees)) l.pieces.items (classes_in (trees_of l.rest))

abbrev pub decreases-loop-tree : goal.decreases-loop-tree
decreases-loop-tree g l = tree_size (trees_of l.rest)
