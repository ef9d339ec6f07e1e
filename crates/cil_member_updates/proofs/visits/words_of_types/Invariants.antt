use Rattle.cil_member_updates.proofs.Common.{◌<◌, ℕ, get_or, «Type», IsOutside, element_of, meaning_in, Cover, element_holds}
use Rattle.cil_member_updates.proofs.visits.words_of_types.Given as goal

-- outside the words none of the names so far holds a type
abbrev pub invariant-loop-k : goal.invariant-loop-k
invariant-loop-k g l =
    (m : ℕ) → m < l.k → (w : ℕ) → IsOutside l.words w → Cover (element_holds l.reading.symbols.now (meaning_in l.reading.side.now.resolved.now) (element_of l.reading.side.now.resolved.now.names.items (get_or l.names m («Type» 0)))) w 0
