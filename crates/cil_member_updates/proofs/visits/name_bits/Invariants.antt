use Rattle.cil_member_updates.proofs.Common.{◌<◌, ℕ, get_or, «Type», element_of, meaning_in, Cover, element_holds}
use Rattle.cil_member_updates.proofs.visits.name_bits.Given as goal

-- the names so far are covered
abbrev pub invariant-loop-k : goal.invariant-loop-k
invariant-loop-k g l =
    (m : ℕ) → m < l.k → Cover (element_holds l.reading.symbols.now (meaning_in l.reading.side.now.resolved.now) (element_of l.reading.side.now.resolved.now.names.items (get_or l.names m («Type» 0)))) l.word l.bits
