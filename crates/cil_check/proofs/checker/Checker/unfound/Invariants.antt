use Rattle.cil_check.proofs.Common.{◌≡◌, List, Placed, references, IsSeen, first_unfound}
use Rattle.cil_check.proofs.checker.Checker.unfound.Given as goal

-- the first that leads nowhere stands no earlier
abbrev pub invariant-loop-k : goal.invariant-loop-k
invariant-loop-k g l = (policy : List Placed) (s : Placed) → IsSeen l.seen policy s → first_unfound policy s.namespace 0 (references s.form) ≡ first_unfound policy s.namespace l.k (references s.form)
