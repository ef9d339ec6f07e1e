use Rattle.cil_check.proofs.Common.{List, Placed, IsNoted, policy_kind_of}
use Rattle.cil_check.proofs.LeastLemmas.{NoneFaultyBelow}
use Rattle.cil_check.proofs.checker.Checker.check_kind.Given as goal

-- the statements gone over have no fault of the kind
abbrev pub invariant-loop-i : goal.invariant-loop-i
invariant-loop-i g l = (policy : List Placed) → IsNoted l.self policy → NoneFaultyBelow (policy_kind_of l.kind) policy l.i
