use Rattle.std.proofs.Common.{length}
use Rattle.cil_expression.proofs.SameLemmas.{GoesOn}
use Rattle.cil_expression.proofs.same.are_same_names.Given as goal

abbrev pub invariant-loop-name : goal.invariant-loop-name
invariant-loop-name g l = GoesOn (goal.F-post g l.same) l.names l.others l.left l.right

abbrev pub decreases-loop-name : goal.decreases-loop-name
decreases-loop-name g l = length l.left
