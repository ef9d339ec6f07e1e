use Rattle.std.proofs.Common.{◌+◌, ◌*◌}
use Rattle.cil_specs.specs.Trees.{none}
use Rattle.cil_reader.specs.Common.{tree_then, trees_of}
use Rattle.cil_reader.proofs.Nodes.{tree_size}
use Rattle.cil_projection.proofs.fit.+fit.Given as goal

abbrev pub decreases-add_list : goal.decreases-add_list
decreases-add_list g l = 3 * tree_size (trees_of l.items) + 2

abbrev pub decreases-add_part : goal.decreases-add_part
decreases-add_part g l = 3 * tree_size (tree_then l.tree none)

abbrev pub decreases-fit : goal.decreases-fit
decreases-fit g l = 3 * tree_size (trees_of l.trees) + 1
