use Rattle.cil_member_updates.proofs.Common.{AreLowered, EvaluatesGone}
use Rattle.cil_member_updates.proofs.MovedLemmas.{SoFar}
use Rattle.cil_member_updates.proofs.passes.lower_gone.Given as goal

-- those so far that went aren't counted any more
abbrev pub invariant-loop-i : goal.invariant-loop-i
invariant-loop-i g l =
    SoFar (AreLowered l.policies l.i l.rows) (EvaluatesGone l.policies l.i l.fn.meter l.meter) l.fn.rows l.rows l.fn.meter l.meter
