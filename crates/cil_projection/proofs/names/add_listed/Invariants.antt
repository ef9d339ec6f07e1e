use Rattle.cil_reader.specs.Common.{trees_of}
use Rattle.cil_reader.proofs.Nodes.{tree_size}
use Rattle.cil_projection.specs.Forms.{listed_names}
use Rattle.cil_projection.proofs.FormLemmas.{Completes}
use Rattle.cil_projection.proofs.names.add_listed.Given as goal

abbrev pub invariant-loop-tree : goal.invariant-loop-tree
invariant-loop-tree g l = Completes l.fn.pieces.items (listed_names l.fn.table (trees_of l.fn.trees)) l.pieces.items (listed_names l.table (trees_of l.rest))

abbrev pub decreases-loop-tree : goal.decreases-loop-tree
decreases-loop-tree g l = tree_size (trees_of l.rest)
