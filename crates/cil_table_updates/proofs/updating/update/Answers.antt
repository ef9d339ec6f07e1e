use Rattle.cil_table_updates.proofs.Common.{◌∙◌, arith, length, sym, ap, subst, on_ok_weaker, adjustments_in, meaning_in, count_now, AdjustsAtMost, given, AreReplaced, count_named}
use Rattle.cil_matching.proofs.ApartLemmas.{apart-rules}
use Rattle.cil_table_updates.proofs.DirtyLemmas.{on-ok-both, rises-at-least, update-at-most}
use Rattle.cil_table_updates.proofs.GivenLemmas.{given-named}
use Rattle.cil_table_updates.proofs.StayingLemmas.{policy-alike, replaced-alike}
use Rattle.cil_table_updates.proofs.UpdateLemmas.{counts-new, gone-counted, rules-replaced, stayed-counted}
use Rattle.cil_table_updates.proofs.updating.update.Goals as goal

pub take_gone-requires-clause-counted : goal.take_gone-requires-clause-counted
take_gone-requires-clause-counted g c key t =
    gone-counted c.args.shared.names.now c.of-old.ensures.apart c.args.shared.rows.now c.of-old.result c.of-new.result c.of-old.ensures.policy c.of-new.ensures.policy c.of-old.ensures.members c.of-new.ensures.members c.of-old.ensures.sound c.of-new.ensures.sound
    (given c.of-old.result key t) c.in_ok-matching.matching (count_now c.args.lines.now key t) c.in_ok-matching.ensures
    (c.requires.stands key t ∙ ap (λ r. count_named c.args.shared.names.now (meaning_in r) key t) (sym c.of-old.ensures.resolved)
    ∙ sym (given-named c.args.shared.names.now c.of-old.ensures.apart c.of-old.result c.of-old.ensures.policy key t c.of-old.ensures.sound))

pub of-requires-3-clause-old_alike : goal.of-requires-3-clause-old_alike
of-requires-3-clause-old_alike g c = policy-alike c.args.shared.names.now c.of-old.ensures.apart c.of-old.result c.of-old.ensures.policy c.of-old.ensures.sound

pub of-requires-3-clause-new_alike : goal.of-requires-3-clause-new_alike
of-requires-3-clause-new_alike g c = policy-alike c.args.shared.names.now c.of-new.ensures.apart c.of-new.result c.of-new.ensures.policy c.of-new.ensures.sound

pub of-requires-3-clause-matched : goal.of-requires-3-clause-matched
of-requires-3-clause-matched g c =
    replaced-alike c.args.shared.rows.now c.of-old.result c.of-new.result c.in_ok-matching.matching
    (rules-replaced c.args.shared.names.now c.of-old.ensures.apart c.args.shared.rows.now c.of-old.result c.of-new.result c.of-old.ensures.policy c.of-new.ensures.policy c.of-old.ensures.members c.of-new.ensures.members c.of-old.ensures.sound c.of-new.ensures.sound c.in_ok-matching.matching c.in_ok-matching.ensures)

pub put_new-requires-clause-matched : goal.put_new-requires-clause-matched
put_new-requires-clause-matched g c =
    subst (λ rows. AreReplaced rows c.of-old.result c.of-new.result c.in_ok-matching.matching) (sym c.in_ok-changed.ensures)
    (rules-replaced c.args.shared.names.now c.of-old.ensures.apart c.args.shared.rows.now c.of-old.result c.of-new.result c.of-old.ensures.policy c.of-new.ensures.policy c.of-old.ensures.members c.of-new.ensures.members c.of-old.ensures.sound c.of-new.ensures.sound c.in_ok-matching.matching c.in_ok-matching.ensures)

pub put_new-requires-clause-counted : goal.put_new-requires-clause-counted
put_new-requires-clause-counted g c key t =
    stayed-counted c.args.shared.names.now c.of-old.ensures.apart c.args.shared.rows.now c.of-old.result c.of-new.result c.of-old.ensures.policy c.of-new.ensures.policy c.of-old.ensures.members c.of-new.ensures.members c.of-old.ensures.sound c.of-new.ensures.sound
    (given c.of-old.result key t) c.in_ok-matching.matching (count_now c.args.lines.now key t) (count_now c.take_gone.new.lines key t) c.in_ok-matching.ensures
    (c.requires.stands key t ∙ ap (λ r. count_named c.args.shared.names.now (meaning_in r) key t) (sym c.of-old.ensures.resolved)
    ∙ sym (given-named c.args.shared.names.now c.of-old.ensures.apart c.of-old.result c.of-old.ensures.policy key t c.of-old.ensures.sound))
    (c.in_ok-take_gone.ensures.now key t)

pub returns-clause-now : goal.returns-clause-now
returns-clause-now g c =
    on_ok_weaker c.put_new.result
    (λ put key t.
    counts-new c.args.shared.names.now c.of-old.ensures.apart c.args.shared.rows.now c.of-old.result c.of-new.result c.of-old.ensures.policy c.of-new.ensures.policy c.of-old.ensures.members c.of-new.ensures.members c.of-old.ensures.sound c.of-new.ensures.sound
    (given c.of-old.result key t) (given c.of-new.result key t) c.in_ok-matching.matching (count_now c.args.lines.now key t) (count_now c.take_gone.new.lines key t) (count_now c.put_new.new.lines key t)
    c.in_ok-matching.ensures
    (c.requires.stands key t ∙ ap (λ r. count_named c.args.shared.names.now (meaning_in r) key t) (sym c.of-old.ensures.resolved)
    ∙ sym (given-named c.args.shared.names.now c.of-old.ensures.apart c.of-old.result c.of-old.ensures.policy key t c.of-old.ensures.sound))
    (c.in_ok-take_gone.ensures.now key t) (put key t)
    ∙ given-named c.args.shared.names.now c.of-new.ensures.apart c.of-new.result c.of-new.ensures.policy key t c.of-new.ensures.sound
    ∙ ap (λ r. count_named c.args.shared.names.now (meaning_in r) key t) c.of-new.ensures.resolved)
    c.put_new.ensures.now

pub returns-clause-at_most : goal.returns-clause-at_most
returns-clause-at_most g c =
    let old = c.of-old.result in
    let new = c.of-new.result in
    let before = adjustments_in c.args.meter.now in
    let after = adjustments_in c.put_new.new.meter in
    on_ok_weaker c.put_new.result
    (λ rises.
    subst (λ r. AdjustsAtMost (meaning_in r) (meaning_in c.args.policies.new.resolved.now) before after) c.of-old.ensures.resolved
    (subst (λ r. AdjustsAtMost (meaning_in old.resolved.now) (meaning_in r) before after) c.of-new.ensures.resolved
    (update-at-most c.args.shared.names.now c.of-old.ensures.apart old new c.of-old.ensures.policy c.of-new.ensures.policy c.of-old.ensures.sound c.of-new.ensures.sound
    (apart-rules (meaning_in old.resolved.now).rules c.resolved_rules_are_in_order.ensures) (apart-rules (meaning_in new.resolved.now).rules c.resolved_rules_are_in_order-2.ensures) c.in_ok-matching.matching c.in_ok-matching.ensures
    before (adjustments_in c.take_gone.new.meter) after c.in_ok-take_gone.ensures.adjustments rises)))
    c.put_new.ensures.adjustments

pub returns-clause-at_least : goal.returns-clause-at_least
returns-clause-at_least g c =
    let old = c.of-old.result in
    let new = c.of-new.result in
    on-ok-both c.put_new.result
    (λ rises put.
    rises-at-least old new c.in_ok-matching.matching (length old.resolved.now.rules.items) (length new.resolved.now.rules.items) (adjustments_in c.args.meter.now) (adjustments_in c.take_gone.new.meter) (adjustments_in c.put_new.new.meter)
    c.in_ok-take_gone.ensures.adjustments rises (count_now c.args.lines.now) (count_now c.take_gone.new.lines) (count_now c.put_new.new.lines) c.in_ok-take_gone.ensures.now put)
    c.put_new.ensures.adjustments c.put_new.ensures.now

pub returns-clause-bounded : goal.returns-clause-bounded
returns-clause-bounded g c key t =
    let put = c.put_new.ensures.bounded key t in
    let taken = c.in_ok-take_gone.ensures.bounded key t in
    let stands = c.requires.stands key t in
    let named =
    given-named c.args.shared.names.now c.of-new.ensures.apart c.of-new.result c.of-new.ensures.policy key t c.of-new.ensures.sound
    ∙ ap (λ r. count_named c.args.shared.names.now (meaning_in r) key t) c.of-new.ensures.resolved in
    omega (arith, put, taken, stands, named)
