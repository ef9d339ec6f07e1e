use Rattle.cil_member_updates.proofs.Common.{refl, inl, inr, arith, none-some, on_ok_weaker, count_before, count_now, evaluations_in, meaning_in, new_in, old_in, sets_in, no_set, set_at, across-none, across-some, within-weaker, ComesIn, IsHeld, IsKept, IsMovedAt, IsUnsettled, MayTurnIn, nothing, AreMoved, gave_in, given}
use Rattle.cil_member_updates.proofs.ComesLemmas.{comes-held, comes-moved}
use Rattle.cil_member_updates.proofs.RenewLemmas.{same-at, same-attribute}
use Rattle.cil_member_updates.proofs.SideLemmas.{counts-members}
use Rattle.cil_member_updates.proofs.passes.renew_set.Goals as goal

pub move_set-requires-clause-stayed : goal.move_set-requires-clause-stayed
move_set-requires-clause-stayed g c =
    let p = c.args.policies.now in
    let i = c.in-Some.i in
    let both = same-at (sets_in (old_in p)) (sets_in (new_in p)) no_set i c.args.j ((c.requires.policies.matched.back i c.args.j).0 ((c.in-Some.ensures i).0 refl)) in
    record {
      was = record {
        side = c.requires.policies.old;
        within = both.0;
        tell = counts-members p.symbols.now (old_in p) c.resolved_is_sound.ensures c.resolved_sets_are_in_order.ensures.the_same (set_at (old_in p) i) (count_before c.args.rows.now) c.requires.before;
      };
      is = c.requires.read;
      same = both.2;
    }

pub move_set-requires-clause-above : goal.move_set-requires-clause-above
move_set-requires-clause-above g c a t =
    omega (arith, across-some (gave_in c.args.policies.now a t) c.args.policies.now.matching.now.back c.in-Some.i c.args.j ((c.in-Some.ensures c.in-Some.i).0 refl), c.requires.above a t)

pub returns-in-Some-clause-now : goal.returns-in-Some-clause-now
returns-in-Some-clause-now g c =
    let p = c.args.policies.now in
    on_ok_weaker c.move_set.result
    (λ (moved : AreMoved (given p.symbols.now (old_in p) c.in-Some.i) (given p.symbols.now (new_in p) c.args.j) (count_now c.args.rows.now) (count_now c.move_set.new.rows)) a t. omega (arith, across-some (gave_in p a t) p.matching.now.back c.in-Some.i c.args.j ((c.in-Some.ensures c.in-Some.i).0 refl), moved a t))
    c.move_set.ensures.now

pub returns-in-None-clause-now : goal.returns-in-None-clause-now
returns-in-None-clause-now g c =
    let p = c.args.policies.now in
    on_ok_weaker c.give_set.result
    (λ (moved : AreMoved nothing (given p.symbols.now (new_in p) c.args.j) (count_now c.args.rows.now) (count_now c.give_set.new.rows)) a t. omega (arith, across-none (gave_in p a t) p.matching.now.back c.args.j (λ i at. none-some i ((c.in-None.ensures i).1 at)), moved a t))
    c.give_set.ensures.now

pub returns-in-Some-clause-evaluations : goal.returns-in-Some-clause-evaluations
returns-in-Some-clause-evaluations g c =
    let p = c.args.policies.now in
    let old = old_in p in
    let new = new_in p in
    let i = c.in-Some.i in
    let place = (c.in-Some.ensures i).0 refl in
    on_ok_weaker c.move_set.result
    (within-weaker (IsUnsettled p.symbols.now (meaning_in old) (meaning_in new) (set_at new c.args.j)) (IsMovedAt p.symbols.now (meaning_in old) (set_at old i) (meaning_in new) (set_at new c.args.j)) (MayTurnIn p c.args.j) (ComesIn p c.args.j)
    (evaluations_in c.args.meter.now) (evaluations_in c.move_set.new.meter) (λ t unsettled. inr (i, place, unsettled))
    (comes-moved p.symbols.now old new p.matching.now i c.args.j place (same-attribute (set_at old i) (set_at new c.args.j) (same-at (sets_in old) (sets_in new) no_set i c.args.j ((c.requires.policies.matched.back i c.args.j).0 place)).2)))
    c.move_set.ensures.evaluations

pub returns-in-None-clause-evaluations : goal.returns-in-None-clause-evaluations
returns-in-None-clause-evaluations g c =
    let p = c.args.policies.now in
    on_ok_weaker c.give_set.result
    (within-weaker (IsKept p.symbols.now (meaning_in (new_in p))) (IsHeld p.symbols.now (meaning_in (new_in p)) (set_at (new_in p) c.args.j)) (MayTurnIn p c.args.j) (ComesIn p c.args.j)
    (evaluations_in c.args.meter.now) (evaluations_in c.give_set.new.meter) (λ t kept. inl (λ i at. none-some i ((c.in-None.ensures i).1 at), kept))
    (comes-held p.symbols.now (old_in p) (new_in p) p.matching.now c.args.j))
    c.give_set.ensures.evaluations
