use Rattle.cil_reader.proofs.Common.{◌≡◌, ◌+◌, trees_of, tree_count}
use Rattle.cil_reader.proofs.tree.TreeSlice.len.Given as goal

abbrev pub invariant-loop-count : goal.invariant-loop-count
invariant-loop-count l = l.count + tree_count (trees_of l.rest) ≡ tree_count (trees_of l.self)
