use Rattle.cil_table_updates.proofs.Common.{◌∙◌, arith, length, ap, subst, on_ok_weaker, adjustments_in, meaning_in, count_now, AdjustsAtMost, count_named}
use Rattle.cil_matching.proofs.ApartLemmas.{apart-rules}
use Rattle.cil_table_updates.proofs.DirtyLemmas.{on-ok-both}
use Rattle.cil_table_updates.proofs.GivenLemmas.{given-named}
use Rattle.cil_table_updates.proofs.LoadLemmas.{load-at-least, load-at-most}
use Rattle.cil_table_updates.proofs.loading.load.Goals as goal

pub returns-clause-now : goal.returns-clause-now
returns-clause-now g c =
    on_ok_weaker c.add_rules.result
    (λ put key t.
    let added = put key t in
    let none = c.requires.none key t in
    let named =
    given-named c.args.shared.names.now c.of-new.ensures.apart c.of-new.result c.of-new.ensures.policy key t c.of-new.ensures.sound
    ∙ ap (λ r. count_named c.args.shared.names.now (meaning_in r) key t) c.of-new.ensures.resolved in
    omega (arith, added, none, named))
    c.add_rules.ensures.now

pub returns-clause-bounded : goal.returns-clause-bounded
returns-clause-bounded g c key t =
    let added = c.add_rules.ensures.bounded key t in
    let none = c.requires.none key t in
    let named =
    given-named c.args.shared.names.now c.of-new.ensures.apart c.of-new.result c.of-new.ensures.policy key t c.of-new.ensures.sound
    ∙ ap (λ r. count_named c.args.shared.names.now (meaning_in r) key t) c.of-new.ensures.resolved in
    omega (arith, added, none, named)

pub returns-clause-at_most : goal.returns-clause-at_most
returns-clause-at_most g c =
    let new = c.of-new.result in
    let before = adjustments_in c.args.meter.now in
    let after = adjustments_in c.add_rules.new.meter in
    on_ok_weaker c.add_rules.result
    (λ rises old none.
    subst (λ r. AdjustsAtMost old (meaning_in r) before after) c.of-new.ensures.resolved
    (load-at-most c.args.shared.names.now c.of-new.ensures.apart new c.of-new.ensures.policy c.of-new.ensures.sound
    (apart-rules (meaning_in new.resolved.now).rules c.resolved_rules_are_in_order.ensures) before after rises old none))
    c.add_rules.ensures.adjustments

pub returns-clause-at_least : goal.returns-clause-at_least
returns-clause-at_least g c =
    let new = c.of-new.result in
    on-ok-both c.add_rules.result
    (λ rises put.
    load-at-least new (length new.resolved.now.rules.items) (adjustments_in c.args.meter.now) (adjustments_in c.add_rules.new.meter) rises (count_now c.args.lines.now) (count_now c.add_rules.new.lines) put)
    c.add_rules.ensures.adjustments c.add_rules.ensures.now
