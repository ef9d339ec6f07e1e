use Rattle.cil_symbol_changes.proofs.Common.{◌∙◌, ap, before_at, count_before, count_now, now_at}
use Rattle.std.proofs.lemmas.List.{with_items_is}
use Rattle.cil_recorded.specs.Differences.{appeared_at, gone_at}
use Rattle.cil_symbol_changes.proofs.ChangeLemmas.{in-new, known-turned, line-before, line-now}
use Rattle.cil_symbol_changes.proofs.GainedLemmas.{alike-trans}
use Rattle.cil_symbol_changes.proofs.access_changes.changes.Goals as goal

pub collect-requires : goal.collect-requires
collect-requires g c =
    let lines = c.args.lines.now in
    known-turned c.args.new_numbers.now lines (appeared_at c.deref.result.now) (before_at lines) (now_at lines) (count_before lines) (count_now lines)
    (λ l t. ap (λ ds. appeared_at ds l t) c.deref.ensures.value ∙ c.in_ok-changes.ensures.appeared l t) (λ l key line t. (line.before t, line.now t)) c.requires.now

pub collect-requires-2 : goal.collect-requires-2
collect-requires-2 g c =
    let lines = c.args.lines.now in
    known-turned c.args.old_numbers.now lines (appeared_at c.deref-2.result.now) (now_at lines) (before_at lines) (count_now lines) (count_before lines)
    (λ l t.
    ap (λ ds. appeared_at ds l t) (c.deref-2.ensures.value ∙ with_items_is c.in_ok-changes.changes _ (c.turn_round.auto.changes ∙ c.deref_mut.ensures.len)) ∙ c.turn_round.ensures l t
    ∙ ap (λ ds. gone_at ds l t) c.deref_mut.ensures.value ∙ c.in_ok-changes.ensures.gone l t) (λ l key line t. (line.now t, line.before t)) c.requires.before

pub returns-clause-added : goal.returns-clause-added
returns-clause-added g c a =
    let lines = c.args.lines.now in
    alike-trans (c.in_ok-added.ensures.those a)
    (in-new c.args.new_numbers.now lines (appeared_at c.deref.result.now) (before_at lines) (now_at lines) (count_before lines) (count_now lines)
    (λ l t. ap (λ ds. appeared_at ds l t) c.deref.ensures.value ∙ c.in_ok-changes.ensures.appeared l t) (λ l key line t. (line.before t, line.now t)) (line-now lines) a)

pub returns-clause-removed : goal.returns-clause-removed
returns-clause-removed g c a =
    let lines = c.args.lines.now in
    alike-trans (c.in_ok-removed.ensures.those a)
    (in-new c.args.old_numbers.now lines (appeared_at c.deref-2.result.now) (now_at lines) (before_at lines) (count_now lines) (count_before lines)
    (λ l t.
    ap (λ ds. appeared_at ds l t) (c.deref-2.ensures.value ∙ with_items_is c.in_ok-changes.changes _ (c.turn_round.auto.changes ∙ c.deref_mut.ensures.len)) ∙ c.turn_round.ensures l t
    ∙ ap (λ ds. gone_at ds l t) c.deref_mut.ensures.value ∙ c.in_ok-changes.ensures.gone l t) (λ l key line t. (line.now t, line.before t)) (line-before lines) a)
