use Rattle.std.proofs.Common.{◌+◌, ◌*◌, ◌≤◌}
use Rattle.cil_text.specs.Image.{trees_of}
use Rattle.cil_reader.proofs.Nodes.{tree_size}
use Rattle.cil_text.proofs.WalkLemmas.{AreFound}
use Rattle.cil_text.proofs.walk.+walk.Given as goal

abbrev pub decreases-statement : goal.decreases-statement
decreases-statement g l = 2 * tree_size (trees_of l.items) + 1

abbrev pub decreases-scope : goal.decreases-scope
decreases-scope g l = 2 * tree_size (trees_of l.operands) + 1

abbrev pub decreases-statements : goal.decreases-statements
decreases-statements g l = 2 * tree_size (trees_of l.trees)

abbrev pub invariant-statements-loop-tree : goal.invariant-statements-loop-tree
invariant-statements-loop-tree g l = record {
  found : AreFound l.inside (trees_of l.trees) (trees_of l.rest) l.found.items;
  smaller : tree_size (trees_of l.rest) ≤ tree_size (trees_of l.trees);
}

abbrev pub decreases-statements-loop-tree : goal.decreases-statements-loop-tree
decreases-statements-loop-tree g l = tree_size (trees_of l.rest)
