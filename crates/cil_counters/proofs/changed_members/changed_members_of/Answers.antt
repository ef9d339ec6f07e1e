use Rattle.cil_counters.proofs.Common.{[], refl, subst, sym, take, count_before, count_now, pairs_of, AreNamed}
use Rattle.cil_recorded.specs.declared.recorded_lines.changes.Change.{Change}
use Rattle.cil_counters.proofs.ChangedMemberLemmas.{all-turned, change-came, change-more, change-went, few-turned, named-none, turned_in}
use Rattle.cil_counters.proofs.changed_members.changed_members_of.Goals as goal

pub loop-change-init : goal.loop-change-init
loop-change-init g c =
    subst (λ l. AreNamed c.args.names.now (turned_in []) (pairs_of l)) (sym c.new-members.ensures.items)
    (named-none c.args.names.now (turned_in []) (λ r t. refl))

pub loop-change-preserved : goal.loop-change-preserved
loop-change-preserved g c =
    let changes = c.deref-change-items.result.now in
    let k = c.loop-change.change-index in
    let none : Change = record { line = 0; word = 0; appeared = 0; gone = 0 } in
    let within = c.loop-change-test.true in
    let told = c.in_ok-changes.ensures in
    let few = few-turned (count_before c.args.rows.now) (count_now c.args.rows.now) c.in_ok-changes.changes.items
    told.appeared told.gone changes c.deref-change-items.ensures.value in
    let first = c.in_ok-push_types.ensures (turned_in (take k changes)) (change-came changes few k none within) in
    change-more changes few k none within c.args.names.now (pairs_of c.push_types-in-loop-change.new.members.items)
    (c.in_ok-push_types-2.ensures _ (change-went changes few k none within) (first c.loop-change.invariant))

pub returns : goal.returns
returns g c =
    let told = c.in_ok-changes.ensures in
    all-turned (count_before c.args.rows.now) (count_now c.args.rows.now) c.in_ok-changes.changes.items told.appeared
    told.gone c.deref-change-items.result.now c.deref-change-items.ensures.value c.args.names.now
    (pairs_of c.loop-change.members.items) c.loop-change.change-index c.loop-change-test.false c.loop-change.invariant
