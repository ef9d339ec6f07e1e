use Rattle.cil_member_updates.proofs.Common.{◌∙◌, sym, subst, meaning_in, set_of, AreBits, keeps}
use Rattle.cil_member_updates.proofs.PlaceLemmas.{set-there}
use Rattle.cil_member_updates.proofs.NameLemmas.{cover-kept, cover-reach}
use Rattle.cil_member_updates.proofs.visits.reached_by_names.Goals as goal

pub returns-then-may_hold_any : goal.returns-then-may_hold_any
returns-then-may_hold_any g c =
    let r = c.args.reading.now.side.now.resolved.now in
    cover-kept c.args.reading.now.symbols.now (meaning_in r) (set_of c.args.reading.now) c.args.word c.word.result
    (subst (AreBits (keeps c.args.reading.now.symbols.now (meaning_in r)) c.args.word) (sym c.word.ensures) (c.requires.side.kept c.args.word))

pub returns-else-may_hold_any : goal.returns-else-may_hold_any
returns-else-may_hold_any g c =
    let r = c.args.reading.now.side.now.resolved.now in
    cover-reach c.args.reading.now.symbols.now (meaning_in r) (set_of c.args.reading.now) c.args.word c.name_bits.result
    (λ t fails. c.reach_is_a_bound.ensures (meaning_in r) (set_of c.args.reading.now).expr t (sym (c.may_hold_any.ensures.value (set_of c.args.reading.now) (set-there r c.args.reading.now.place c.requires.within)) ∙ c.if-may_hold_any.false) fails)
    c.name_bits.ensures
