use Rattle.cil_table_updates.proofs.Common.{◌≡◌, ◌+◌, ◌≤◌, ◌∙◌, ap, sym, add-zero, length, nat_lt, slice_get, subst, Some, on_ok_weaker, is_rule_below, adjustments_in, rises-none, rises-same, alone-some, count_now, gives_it, goes, given}
use Rattle.cil_table_updates.proofs.AdjustedLemmas.{counted-some}
use Rattle.cil_table_updates.proofs.GivenLemmas.{gone-rule}
use Rattle.cil_table_updates.proofs.PlaceLemmas.{never, passes-at, read-at}
use Rattle.cil_table_updates.proofs.passes.take_if_gone.Goals as goal

pub returns-in-Some-clause-now : goal.returns-in-Some-clause-now
returns-in-Some-clause-now g c key t =
    ap (λ n. count_now c.args.lines.now key t + n) (alone-some (given c.args.update.now.old.now key t) c.args.update.now.matching.now.ahead c.args.i c.in-Some.field-0 ((c.new_place.ensures c.in-Some.field-0).0 c.in-Some.is))
    ∙ add-zero (count_now c.args.lines.now key t)

pub take_rule-requires-clause-counted : goal.take_rule-requires-clause-counted
take_rule-requires-clause-counted g c key t =
    subst (λ n. n ≤ count_now c.args.lines.now key t)
    (gone-rule c.args.update.now.old.now key t c.args.update.now.matching.now.ahead c.args.i c.index-rules-i.result
    (read-at c.rules.result.now c.args.update.now.old.now.resolved.now.rules.items c.args.i c.index-rules-i.result c.rules.ensures.rules c.requires.within c.index-rules-i.is)
    (never (λ j. slice_get c.args.update.now.matching.now.ahead c.args.i ≡ Some (Some j)) c.new_place.result c.new_place.ensures c.in-None.is))
    (c.requires.counted key t)

pub returns-in-None-clause-now : goal.returns-in-None-clause-now
returns-in-None-clause-now g c =
    on_ok_weaker c.take_rule.result
    (λ moved key t.
    ap (λ n. count_now c.take_rule.new.lines key t + n)
    (gone-rule c.args.update.now.old.now key t c.args.update.now.matching.now.ahead c.args.i c.index-rules-i.result
    (read-at c.rules.result.now c.args.update.now.old.now.resolved.now.rules.items c.args.i c.index-rules-i.result c.rules.ensures.rules c.requires.within c.index-rules-i.is)
    (never (λ j. slice_get c.args.update.now.matching.now.ahead c.args.i ≡ Some (Some j)) c.new_place.result c.new_place.ensures c.in-None.is))
    ∙ moved key t)
    c.take_rule.ensures.now

pub returns-in-Some-clause-adjustments : goal.returns-in-Some-clause-adjustments
returns-in-Some-clause-adjustments g c =
    rises-none (goes c.args.update.now.old.now c.args.update.now.matching.now c.args.i) (adjustments_in c.args.meter.now)
    (λ x. ap (nat_lt 0) (alone-some (given c.args.update.now.old.now x.key x.target) c.args.update.now.matching.now.ahead c.args.i c.in-Some.field-0 ((c.new_place.ensures c.in-Some.field-0).0 c.in-Some.is)))

pub returns-in-None-clause-adjustments : goal.returns-in-None-clause-adjustments
returns-in-None-clause-adjustments g c =
    let old = c.args.update.now.old.now in
    let rule = c.index-rules-i.result in
    on_ok_weaker c.take_rule.result
    (rises-same (gives_it old rule) (goes old c.args.update.now.matching.now c.args.i) (adjustments_in c.args.meter.now) (adjustments_in c.take_rule.new.meter)
    (λ x. counted-some (gives_it old rule x)
    ∙ sym (ap (nat_lt 0) (gone-rule old x.key x.target c.args.update.now.matching.now.ahead c.args.i rule
    (read-at c.rules.result.now old.resolved.now.rules.items c.args.i rule c.rules.ensures.rules c.requires.within c.index-rules-i.is)
    (never (λ j. slice_get c.args.update.now.matching.now.ahead c.args.i ≡ Some (Some j)) c.new_place.result c.new_place.ensures c.in-None.is)))))
    c.take_rule.ensures.adjustments

pub take_rule-requires-clause-below : goal.take_rule-requires-clause-below
take_rule-requires-clause-below g c =
    let rules = c.args.update.now.old.now.resolved.now.rules.items in
    passes-at (is_rule_below (length c.args.update.now.old.now.numbering.now.symbols)) rules c.args.i c.index-rules-i.result c.requires.ready.below
    (read-at c.rules.result.now rules c.args.i c.index-rules-i.result c.rules.ensures.rules c.requires.within c.index-rules-i.is)
