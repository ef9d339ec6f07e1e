use Rattle.cil_counters.proofs.Common.{arith, refl, subst, sym, IsCountedBy, meaning_in}
use Rattle.cil_delta_specs.specs.Work.{AdjustsFew, EvaluatesFew}
use Rattle.cil_member_rows.specs.Rows as member_rows
use Rattle.cil_resolve.specs.Meter.{adjustments_in, evaluations_in}
use Rattle.cil_keyed_lines.specs.Keyed as access_tables
use Rattle.cil_counters.proofs.FoundLemmas.{adjusts, rules-below}
use Rattle.cil_counters.proofs.CountedLemmas.{counted-by-alike, counted-with, members-counted}
use Rattle.cil_counters.proofs.counters.Counters.take_steps.Given as given
use Rattle.cil_counters.proofs.counters.Counters.take_steps.Goals as goal
use Rattle.cil_counters.proofs.counters.Counters.take_steps.Goals.{After-update, In_ok-update}

pub update-requires-clause-old_symbols : goal.update-requires-clause-old_symbols
update-requires-clause-old_symbols g c = record { numbers = c.bring_members.ensures.before.symbols.numbers; count = c.bring_members.ensures.before.symbols.count }

pub update-requires-clause-old_members : goal.update-requires-clause-old_members
update-requires-clause-old_members g c =
    members-counted c.bring_members.new.self.names c.args.old.now c.resolved_is_sound.ensures c.resolved_sets_are_in_order.ensures.the_same (member_rows.count_before c.bring_members.new.self.rows)
    c.bring_members.ensures.before.counted.are_members

pub update-requires-clause-new_symbols : goal.update-requires-clause-new_symbols
update-requires-clause-new_symbols g c = record { numbers = c.in_ok-next.ensures.symbols.numbers; count = c.in_ok-next.ensures.symbols.count }

pub update-requires-clause-new_members : goal.update-requires-clause-new_members
update-requires-clause-new_members g c =
    members-counted c.bring_members.new.self.names c.args.new.now c.resolved_is_sound-2.ensures c.resolved_sets_are_in_order-2.ensures.the_same (member_rows.count_now c.bring_members.new.self.rows) c.in_ok-next.ensures.members

-- what is counted of the new policy
now : (g : given.Over) (c : In_ok-update g) → IsCountedBy c.bring_members.new.self.names c.args.new.now c.in_ok-next.next (member_rows.count_now c.bring_members.new.self.rows) (access_tables.count_now c.update.new.lines)
now g c =
    counted-with c.args.new.now c.bring_members.new.self.names c.in_ok-next.next (member_rows.count_now c.bring_members.new.self.rows) (access_tables.count_now c.update.new.lines)
    c.in_ok-next.ensures.symbols c.in_ok-next.ensures.members c.in_ok-update.ensures.now

-- and what was counted of the old one
before : (g : given.Over) (c : After-update g) → IsCountedBy c.bring_members.new.self.names c.args.old.now c.bring_members.new.self.policy (member_rows.count_before c.bring_members.new.self.rows) (access_tables.count_before c.update.new.lines)
before g c =
    let rows = member_rows.count_before c.bring_members.new.self.rows in
    counted-by-alike c.args.old.now c.bring_members.new.self.names c.bring_members.new.self.names c.bring_members.new.self.policy c.bring_members.new.self.policy rows rows (access_tables.count_before c.bring_members.new.self.tables) (access_tables.count_before c.update.new.lines)
    c.bring_members.ensures.before refl refl (λ a t. refl) c.update.ensures.before

pub returns-clause-now : goal.returns-clause-now
returns-clause-now g c = now g (goal.at.returns-clause-now g c).In_ok-update

pub returns-in_err-update-clause-before : goal.returns-in_err-update-clause-before
returns-in_err-update-clause-before g c = before g (goal.at.returns-in_err-update-clause-before g c).After-update

pub returns-clause-before : goal.returns-clause-before
returns-clause-before g c = before g (goal.at.returns-clause-before g c).After-update

pub returns-clause-evaluations : goal.returns-clause-evaluations
returns-clause-evaluations g c =
    subst (EvaluatesFew (meaning_in c.args.old.now) (meaning_in c.args.new.now) (evaluations_in c.args.meter.now)) (sym c.update.ensures.evaluations) c.in_ok-next.ensures.evaluations

pub returns-clause-adjustments : goal.returns-clause-adjustments
returns-clause-adjustments g c changes are =
    let members = c.bring_members.new in
    let old = c.args.old.now in
    let new = c.args.new.now in
    let before = c.bring_members.ensures.before.counted in
    subst (λ n. AdjustsFew (meaning_in old) (meaning_in new) changes n (adjustments_in c.update.new.meter)) c.bring_members.ensures.adjustments
    (adjusts members.self.names old new (member_rows.count_before members.self.rows) (member_rows.count_now members.self.rows) (access_tables.count_now members.self.tables) (access_tables.count_now c.update.new.lines)
    (record { symbols = before.symbols; numbers = before.numbers; are_members = before.are_members; are_counts = c.bring_members.ensures.accesses })
    (now g (goal.at.returns-clause-adjustments g c).In_ok-update).counted c.resolved_names_are_kept.ensures.types c.resolved_names_are_kept-2.ensures.types
    (rules-below old c.rules.result.now c.rules.ensures.rules c.rules.ensures.within) (rules-below new c.rules-2.result.now c.rules-2.ensures.rules c.rules-2.ensures.within)
    changes are (adjustments_in members.meter) (adjustments_in c.update.new.meter) c.in_ok-update.ensures.at_most c.in_ok-update.ensures.at_least)

pub returns-in_err-next-clause-bounded : goal.returns-in_err-next-clause-bounded
returns-in_err-next-clause-bounded g c key t = let was = c.bring_members.ensures.accesses key t in omega (arith, was)
