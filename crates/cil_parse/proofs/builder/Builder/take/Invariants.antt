use Rattle.cil_text.specs.Image.{trees_of}
use Rattle.cil_reader.proofs.Nodes.{tree_size}
use Rattle.cil_parse.proofs.TreeLemmas.{IsUnderWay}
use Rattle.cil_parse.proofs.builder.Builder.take.Given as goal

abbrev pub invariant-loop-statement : goal.invariant-loop-statement
invariant-loop-statement g l = IsUnderWay l.initial.self l.self l.around (trees_of l.trees) (trees_of l.rest)

abbrev pub decreases-loop-statement : goal.decreases-loop-statement
decreases-loop-statement g l = tree_size (trees_of l.rest)
