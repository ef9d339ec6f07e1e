use Rattle.cil_member_updates.proofs.Common.{◌<◌, ℕ, get_or, «Type», count_before, count_now, IsOutside, element_of, IsUnchanged}
use Rattle.cil_member_updates.proofs.visits.words_of_names.Given as goal

-- outside the words nothing changed of the names so far
abbrev pub invariant-loop-k : goal.invariant-loop-k
invariant-loop-k g l =
    (m : ℕ) → m < l.k → (w : ℕ) → IsOutside l.words w → IsUnchanged l.reading.symbols.now (count_before l.rows) (count_now l.rows) (element_of l.reading.side.now.resolved.now.names.items (get_or l.names m («Type» 0))) w 0
