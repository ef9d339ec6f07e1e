use Rattle.cil_check.proofs.Common.{List, Placed, IsNoted}
use Rattle.cil_check.proofs.CheckLemmas.{NoneBelow}
use Rattle.cil_check.proofs.checker.Checker.check_statements.Given as goal

-- there is no fault of a code gone over
abbrev pub invariant-loop-kind : goal.invariant-loop-kind
invariant-loop-kind g l = (policy : List Placed) → IsNoted l.self policy → NoneBelow policy l.kind-index
