use Rattle.cil_member_updates.proofs.Common.{count_now, evaluations_in, MayMove, MustMove, RisesWithin, is_given, was_given}
use Rattle.cil_member_updates.proofs.EvaluatedLemmas.{Beneath}
use Rattle.cil_member_updates.proofs.MovedLemmas.{MovedBelow, SoFar}
use Rattle.cil_member_updates.proofs.sets.move_set.Given as goal

-- the words so far are done
abbrev pub invariant-loop-word : goal.invariant-loop-word
invariant-loop-word g l =
    SoFar (MovedBelow l.word (was_given l.stayed) (is_given l.stayed) (count_now l.fn.rows) (count_now l.rows))
    (RisesWithin (Beneath l.word (MayMove l.stayed)) (Beneath l.word (MustMove l.stayed)) (evaluations_in l.fn.meter) (evaluations_in l.meter)) l.fn.rows l.rows l.fn.meter l.meter
