use Rattle.std.proofs.Common.{length}
use Rattle.cil_expression.proofs.ListedLemmas.{HoldsOn}
use Rattle.cil_expression.proofs.name_list.holds_one.Given as goal

abbrev pub invariant-loop-name : goal.invariant-loop-name
invariant-loop-name g l = HoldsOn (goal.F-post g l.known) l.names l.left

abbrev pub decreases-loop-name : goal.decreases-loop-name
decreases-loop-name g l = length l.left
