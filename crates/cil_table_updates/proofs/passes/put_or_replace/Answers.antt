use Rattle.cil_table_updates.proofs.Common.{◌≡◌, ◌+◌, ◌≤◌, ◌==◌, ◌∙◌, false, sym, ap, add-zero, arith, length, not, slice_get, subst, Some, on_ok_weaker, is_rule_below, adjustments_in, rises-none, rises-same, across, across-none, across-some, count_now, gives_it, swaps, turns, given}
use Rattle.cil_table_updates.proofs.AdjustedLemmas.{counted-other, no-other}
use Rattle.cil_table_updates.proofs.GivenLemmas.{given-rule}
use Rattle.cil_table_updates.proofs.MoveLemmas.{plainly-given}
use Rattle.cil_table_updates.proofs.PlaceLemmas.{never, passes-at, read-at}
use Rattle.cil_table_updates.proofs.passes.put_or_replace.Goals as goal

pub plainly_stays-requires : goal.plainly_stays-requires
plainly_stays-requires g c =
    passes-at (is_rule_below (length c.args.update.now.new.now.numbering.now.symbols)) c.args.update.now.new.now.resolved.now.rules.items c.args.j c.index-rules-j.result c.requires.new_ready.below
    (read-at c.rules.result.now c.args.update.now.new.now.resolved.now.rules.items c.args.j c.index-rules-j.result c.rules.ensures.rules c.requires.within c.index-rules-j.is)

pub returns-then-plainly_stays-clause-now : goal.returns-then-plainly_stays-clause-now
returns-then-plainly_stays-clause-now g c key t =
    let old = c.args.update.now.old.now in
    let new = c.args.update.now.new.now in
    let at = (c.old_place.ensures c.in-Some.i).0 c.in-Some.is in
    let read = read-at c.rules.result.now new.resolved.now.rules.items c.args.j c.index-rules-j.result c.rules.ensures.rules c.requires.within c.index-rules-j.is in
    ap (λ n. count_now c.args.lines.now key t + n)
    (across-some (given old key t) c.args.update.now.matching.now.back c.in-Some.i c.args.j at
    ∙ plainly-given c.args.update.now.changed.now old c.in-Some.i new c.args.j (c.requires.matched c.in-Some.i c.args.j at) c.index-rules-j.result read
    (c.plainly_stays.ensures.plain c.if-plainly_stays.true) (c.plainly_stays.ensures.reach c.if-plainly_stays.true) key t)

pub returns-then-plainly_stays-clause-adjustments : goal.returns-then-plainly_stays-clause-adjustments
returns-then-plainly_stays-clause-adjustments g c =
    let old = c.args.update.now.old.now in
    let new = c.args.update.now.new.now in
    let at = (c.old_place.ensures c.in-Some.i).0 c.in-Some.is in
    let read = read-at c.rules.result.now new.resolved.now.rules.items c.args.j c.index-rules-j.result c.rules.ensures.rules c.requires.within c.index-rules-j.is in
    rises-none (turns old new c.args.update.now.matching.now c.args.j) (adjustments_in c.args.meter.now)
    (λ x. no-other (across (given old x.key x.target) c.args.update.now.matching.now.back c.args.j) (given new x.key x.target c.args.j)
    (across-some (given old x.key x.target) c.args.update.now.matching.now.back c.in-Some.i c.args.j at
    ∙ plainly-given c.args.update.now.changed.now old c.in-Some.i new c.args.j (c.requires.matched c.in-Some.i c.args.j at) c.index-rules-j.result read
    (c.plainly_stays.ensures.plain c.if-plainly_stays.true) (c.plainly_stays.ensures.reach c.if-plainly_stays.true) x.key x.target))

pub replace_changed-requires-clause-replaced : goal.replace_changed-requires-clause-replaced
replace_changed-requires-clause-replaced g c = c.requires.matched c.in-Some.i c.args.j ((c.old_place.ensures c.in-Some.i).0 c.in-Some.is)

pub replace_changed-requires-clause-counted : goal.replace_changed-requires-clause-counted
replace_changed-requires-clause-counted g c key t =
    subst (λ n. n ≤ count_now c.args.lines.now key t)
    (across-some (given c.args.update.now.old.now key t) c.args.update.now.matching.now.back c.in-Some.i c.args.j ((c.old_place.ensures c.in-Some.i).0 c.in-Some.is))
    (c.requires.counted key t)

pub put_rule-requires-clause-below : goal.put_rule-requires-clause-below
put_rule-requires-clause-below g c =
    passes-at (is_rule_below (length c.args.update.now.new.now.numbering.now.symbols)) c.args.update.now.new.now.resolved.now.rules.items c.args.j c.index-rules-j.result c.requires.new_ready.below
    (read-at c.rules.result.now c.args.update.now.new.now.resolved.now.rules.items c.args.j c.index-rules-j.result c.rules.ensures.rules c.requires.within c.index-rules-j.is)

pub returns-else-plainly_stays-clause-now : goal.returns-else-plainly_stays-clause-now
returns-else-plainly_stays-clause-now g c =
    on_ok_weaker c.replace_changed.result
    (λ moved key t.
    ap (λ n. count_now c.replace_changed.new.lines key t + n)
    (across-some (given c.args.update.now.old.now key t) c.args.update.now.matching.now.back c.in-Some.i c.args.j ((c.old_place.ensures c.in-Some.i).0 c.in-Some.is))
    ∙ moved key t)
    c.replace_changed.ensures.now

pub returns-in-None-clause-now : goal.returns-in-None-clause-now
returns-in-None-clause-now g c =
    on_ok_weaker c.put_rule.result
    (λ moved key t.
    ap (λ n. count_now c.put_rule.new.lines key t + n)
    (across-none (given c.args.update.now.old.now key t) c.args.update.now.matching.now.back c.args.j
    (never (λ i. slice_get c.args.update.now.matching.now.back c.args.j ≡ Some (Some i)) c.old_place.result c.old_place.ensures c.in-None.is))
    ∙ add-zero (count_now c.put_rule.new.lines key t)
    ∙ moved key t
    ∙ ap (λ n. count_now c.args.lines.now key t + n)
    (sym (given-rule c.args.update.now.new.now key t c.args.j c.index-rules-j.result
    (read-at c.rules.result.now c.args.update.now.new.now.resolved.now.rules.items c.args.j c.index-rules-j.result c.rules.ensures.rules c.requires.within c.index-rules-j.is))))
    c.put_rule.ensures.now

pub returns-else-plainly_stays-clause-adjustments : goal.returns-else-plainly_stays-clause-adjustments
returns-else-plainly_stays-clause-adjustments g c =
    let old = c.args.update.now.old.now in
    let new = c.args.update.now.new.now in
    on_ok_weaker c.replace_changed.result
    (rises-same (swaps old c.in-Some.i new c.args.j) (turns old new c.args.update.now.matching.now c.args.j) (adjustments_in c.args.meter.now) (adjustments_in c.replace_changed.new.meter)
    (λ x. sym (ap (λ n. not (n == given new x.key x.target c.args.j))
    (across-some (given old x.key x.target) c.args.update.now.matching.now.back c.in-Some.i c.args.j ((c.old_place.ensures c.in-Some.i).0 c.in-Some.is)))))
    c.replace_changed.ensures.adjustments

pub returns-in-None-clause-adjustments : goal.returns-in-None-clause-adjustments
returns-in-None-clause-adjustments g c =
    let old = c.args.update.now.old.now in
    let new = c.args.update.now.new.now in
    let rule = c.index-rules-j.result in
    let read = read-at c.rules.result.now new.resolved.now.rules.items c.args.j rule c.rules.ensures.rules c.requires.within c.index-rules-j.is in
    on_ok_weaker c.put_rule.result
    (rises-same (gives_it new rule) (turns old new c.args.update.now.matching.now c.args.j) (adjustments_in c.args.meter.now) (adjustments_in c.put_rule.new.meter)
    (λ x. counted-other false (gives_it new rule x)
    ∙ sym (ap (λ n. not (0 == n)) (given-rule new x.key x.target c.args.j rule read))
    ∙ sym (ap (λ n. not (n == given new x.key x.target c.args.j))
    (across-none (given old x.key x.target) c.args.update.now.matching.now.back c.args.j
    (never (λ i. slice_get c.args.update.now.matching.now.back c.args.j ≡ Some (Some i)) c.old_place.result c.old_place.ensures c.in-None.is)))))
    c.put_rule.ensures.adjustments

pub returns-in-None-clause-bounded : goal.returns-in-None-clause-bounded
returns-in-None-clause-bounded g c key t =
    let rules = c.args.update.now.new.now.resolved.now.rules.items in
    let read = read-at c.rules.result.now rules c.args.j c.index-rules-j.result c.rules.ensures.rules c.requires.within c.index-rules-j.is in
    let gives = given-rule c.args.update.now.new.now key t c.args.j c.index-rules-j.result read in
    omega (arith, c.put_rule.ensures.bounded key t, gives)
