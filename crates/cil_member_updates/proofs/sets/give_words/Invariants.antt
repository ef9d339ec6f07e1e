use Rattle.cil_member_updates.proofs.Common.{count_now, evaluations_in, MayHold, MustHold, RisesWithin, lowered_by, raised_by}
use Rattle.cil_member_updates.proofs.EvaluatedLemmas.{Beneath}
use Rattle.cil_member_updates.proofs.MovedLemmas.{MovedBelow, SoFar}
use Rattle.cil_member_updates.proofs.sets.give_words.Given as goal

-- the words so far are done
abbrev pub invariant-loop-word : goal.invariant-loop-word
invariant-loop-word g l =
    SoFar (MovedBelow l.word (lowered_by l.reading) (raised_by l.reading) (count_now l.fn.rows) (count_now l.rows))
    (RisesWithin (Beneath l.word (MayHold l.reading)) (Beneath l.word (MustHold l.reading)) (evaluations_in l.fn.meter) (evaluations_in l.meter)) l.fn.rows l.rows l.fn.meter l.meter
