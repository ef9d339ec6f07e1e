use Rattle.cil_member_updates.proofs.Common.{AreRenewed, EvaluatesNew}
use Rattle.cil_member_updates.proofs.MovedLemmas.{SoFar}
use Rattle.cil_member_updates.proofs.passes.renew.Given as goal

-- The set statements so far count as in the new policy, and the others that stayed as in the old one.
abbrev pub invariant-loop-j : goal.invariant-loop-j
invariant-loop-j g l =
    SoFar (AreRenewed l.policies l.j l.rows) (EvaluatesNew l.policies l.j l.fn.meter l.meter) l.fn.rows l.rows l.fn.meter l.meter
