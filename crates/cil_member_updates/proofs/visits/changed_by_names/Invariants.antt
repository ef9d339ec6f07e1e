use Rattle.cil_member_updates.proofs.Common.{◌<◌, ℕ, get_or, «Type», count_before, count_now, element_of, IsUnchanged}
use Rattle.cil_member_updates.proofs.TurnedLemmas.{TurnedBelow}
use Rattle.cil_member_updates.proofs.visits.changed_by_names.Given as goal

-- nothing changed of the names so far where no bit is, and something where one is
abbrev pub invariant-loop-k : goal.invariant-loop-k
invariant-loop-k g l =
    record {
      unchanged : (m : ℕ) → m < l.k → IsUnchanged l.reading.symbols.now (count_before l.rows) (count_now l.rows) (element_of l.reading.side.now.resolved.now.names.items (get_or l.names m («Type» 0))) l.word l.bits;
      turned : TurnedBelow l.reading.symbols.now (count_before l.rows) (count_now l.rows) (λ m. element_of l.reading.side.now.resolved.now.names.items (get_or l.names m («Type» 0))) l.k l.word l.bits;
    }
