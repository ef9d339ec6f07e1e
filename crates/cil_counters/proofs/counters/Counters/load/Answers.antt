use Rattle.cil_counters.proofs.Common.{◌∙◌, ℕ, arith, count_by, refl, subst, sym, IsCountedBy, meaning_in, sets_in}
use Rattle.cil_delta_specs.specs.Work.{AdjustsFew, EvaluatesFew}
use Rattle.cil_member_rows.specs.Rows as member_rows
use Rattle.cil_member_updates.specs.Given.{gives}
use Rattle.cil_resolve.specs.Meter.{adjustments_in, evaluations_in}
use Rattle.cil_keyed_lines.specs.Keyed as access_tables
use Rattle.cil_counters.proofs.FoundLemmas.{adjusts, rules-below}
use Rattle.cil_counters.proofs.CountedLemmas.{count-none, counted-with, members-counted, none-of}
use Rattle.cil_counters.proofs.counters.Counters.load.Given as given
use Rattle.cil_counters.proofs.counters.Counters.load.Goals as goal
use Rattle.cil_counters.proofs.counters.Counters.load.Goals.{In_ok-load}

pub load-requires-clause-settled : goal.load-requires-clause-settled
load-requires-clause-settled g c = omega (arith, c.load_members.ensures.steps, c.requires.settled)

pub load-requires-clause-none : goal.load-requires-clause-none
load-requires-clause-none g c key t =
    let meaning = meaning_in c.args.old.now in
    c.load_members.ensures.accesses key t ∙ count-none c.load_members.new.self.names meaning key t (none-of meaning.rules c.requires.rules)

pub load-requires-clause-new_symbols : goal.load-requires-clause-new_symbols
load-requires-clause-new_symbols g c = record { numbers = c.in_ok-next.ensures.symbols.numbers; count = c.in_ok-next.ensures.symbols.count }

pub load-requires-clause-new_members : goal.load-requires-clause-new_members
load-requires-clause-new_members g c =
    members-counted c.load_members.new.self.names c.args.new.now c.resolved_is_sound.ensures c.resolved_sets_are_in_order.ensures.the_same (member_rows.count_now c.load_members.new.self.rows) c.in_ok-next.ensures.members

-- what is counted of the new policy
now : (g : given.Over) (c : In_ok-load g) → IsCountedBy c.load_members.new.self.names c.args.new.now c.in_ok-next.next (member_rows.count_now c.load_members.new.self.rows) (access_tables.count_now c.load.new.lines)
now g c =
    counted-with c.args.new.now c.load_members.new.self.names c.in_ok-next.next (member_rows.count_now c.load_members.new.self.rows) (access_tables.count_now c.load.new.lines)
    c.in_ok-next.ensures.symbols c.in_ok-next.ensures.members c.in_ok-load.ensures.now

pub returns-clause-now : goal.returns-clause-now
returns-clause-now g c = now g (goal.at.returns-clause-now g c).In_ok-load

pub returns-clause-named : goal.returns-clause-named
returns-clause-named g c = c.load_members.ensures.named

pub returns-clause-evaluations : goal.returns-clause-evaluations
returns-clause-evaluations g c =
    subst (EvaluatesFew (meaning_in c.args.old.now) (meaning_in c.args.new.now) (evaluations_in c.args.meter.now)) (sym c.load.ensures.evaluations) c.in_ok-next.ensures.evaluations

pub returns-clause-adjustments : goal.returns-clause-adjustments
returns-clause-adjustments g c changes are =
    let members = c.load_members.new in
    let old = c.args.old.now in
    let new = c.args.new.now in
    let old_rows : ℕ → ℕ → ℕ = (λ a t. count_by (gives members.self.names (meaning_in old) a t) (sets_in old)) in
    let (symbols, numbers) = c.load_members.ensures.named in
    subst (λ n. AdjustsFew (meaning_in old) (meaning_in new) changes n (adjustments_in c.load.new.meter)) c.load_members.ensures.adjustments
    (adjusts members.self.names old new old_rows (member_rows.count_now members.self.rows) (access_tables.count_now members.self.tables) (access_tables.count_now c.load.new.lines)
    (record { symbols = symbols; numbers = numbers; are_members = λ a t. refl; are_counts = c.load_members.ensures.accesses }) (now g (goal.at.returns-clause-adjustments g c).In_ok-load).counted c.resolved_names_are_kept.ensures.types c.resolved_names_are_kept-2.ensures.types
    (rules-below old c.rules.result.now c.rules.ensures.rules c.rules.ensures.within) (rules-below new c.rules-2.result.now c.rules-2.ensures.rules c.rules-2.ensures.within)
    changes are (adjustments_in members.meter) (adjustments_in c.load.new.meter) (c.in_ok-load.ensures.at_most (meaning_in old) c.requires.rules) c.in_ok-load.ensures.at_least)

pub returns-in_err-next-clause-bounded : goal.returns-in_err-next-clause-bounded
returns-in_err-next-clause-bounded g c key t = let was = c.load_members.ensures.accesses key t in omega (arith, was)

pub returns-in_err-load-clause-bounded : goal.returns-in_err-load-clause-bounded
returns-in_err-load-clause-bounded g c key t = let is = c.load.ensures.bounded key t in omega (arith, is)

pub returns-clause-bounded : goal.returns-clause-bounded
returns-clause-bounded g c key t = let is = c.load.ensures.bounded key t in omega (arith, is)
