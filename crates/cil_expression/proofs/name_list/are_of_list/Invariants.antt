use Rattle.std.proofs.Common.{◌-◌}
use Rattle.cil_expression.proofs.ListedLemmas.{GoesTo}
use Rattle.cil_expression.proofs.name_list.are_of_list.Given as goal

abbrev pub invariant-loop : goal.invariant-loop
invariant-loop l = GoesTo l.spelling l.names l.left (l.names - l.counter)
