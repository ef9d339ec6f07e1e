use Rattle.cil_matching.proofs.Common.{map, sets_in, ArePassed, set_spot}
use Rattle.cil_matching.proofs.passed_over.passed_over.Given as goal

-- those of so many places are known
abbrev pub invariant-loop-j : goal.invariant-loop-j
invariant-loop-j g l = ArePassed (map set_spot (sets_in l.resolved)) l.found l.j l.places.items l.positions
