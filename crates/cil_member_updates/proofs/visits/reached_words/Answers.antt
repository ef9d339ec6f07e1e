use Rattle.cil_member_updates.proofs.Common.{◌∙◌, sym, meaning_in, set_of}
use Rattle.cil_member_updates.proofs.PlaceLemmas.{set-there}
use Rattle.cil_member_updates.proofs.NameLemmas.{cover-outside, cover-reach}
use Rattle.cil_member_updates.proofs.visits.reached_words.Goals as goal

pub returns-then-may_hold_any : goal.returns-then-may_hold_any
returns-then-may_hold_any g c =
    cover-outside c.args.reading.now.symbols.now (meaning_in c.args.reading.now.side.now.resolved.now) (set_of c.args.reading.now) c.len.result c.len.ensures.len

pub returns-in-Some : goal.returns-in-Some
returns-in-Some g c w outside =
    let r = c.args.reading.now.side.now.resolved.now in
    cover-reach c.args.reading.now.symbols.now (meaning_in r) (set_of c.args.reading.now) w 0
    (λ t fails. c.reach_is_a_bound.ensures (meaning_in r) (set_of c.args.reading.now).expr t (sym (c.may_hold_any.ensures.value (set_of c.args.reading.now) (set-there r c.args.reading.now.place c.requires.within)) ∙ c.if-may_hold_any.false) fails)
    (c.in-Some.ensures {u = tt} w outside)

pub returns-in-None : goal.returns-in-None
returns-in-None g c =
    cover-outside c.args.reading.now.symbols.now (meaning_in c.args.reading.now.side.now.resolved.now) (set_of c.args.reading.now) c.len.result c.len.ensures.len
