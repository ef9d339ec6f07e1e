use Rattle.cil_member_updates.proofs.Common.{refl, arith, none-some, on_ok_weaker, count_now, evaluations_in, meaning_in, old_in, set_at, alone-none, alone-some, within-none, within-weaker, GoesIn, IsHeld, IsKept, MayGoIn, nothing, AreMoved, gave_in, given}
use Rattle.cil_member_updates.proofs.MovedLemmas.{stays-first}
use Rattle.cil_member_updates.proofs.passes.lower_gone_set.Goals as goal

pub returns-in-Some-clause-now : goal.returns-in-Some-clause-now
returns-in-Some-clause-now g c a t =
    let none = alone-some (gave_in c.args.policies.now a t) c.args.policies.now.matching.now.ahead c.args.i c.in-Some.field-0 ((c.in-Some.ensures c.in-Some.field-0).0 refl) in
    omega (arith, none)

pub returns-in-Some-clause-stays : goal.returns-in-Some-clause-stays
returns-in-Some-clause-stays g c = stays-first c.args.rows.now c.args.meter.now

pub give_set-requires-clause-above : goal.give_set-requires-clause-above
give_set-requires-clause-above g c a t =
    omega (arith, alone-none (gave_in c.args.policies.now a t) c.args.policies.now.matching.now.ahead c.args.i (λ j at. none-some j ((c.in-None.ensures j).1 at)), c.requires.above a t)

pub returns-in-None-clause-now : goal.returns-in-None-clause-now
returns-in-None-clause-now g c =
    let p = c.args.policies.now in
    on_ok_weaker c.give_set.result
    (λ (moved : AreMoved (given p.symbols.now (old_in p) c.args.i) nothing (count_now c.args.rows.now) (count_now c.give_set.new.rows)) a t. omega (arith, alone-none (gave_in p a t) p.matching.now.ahead c.args.i (λ j at. none-some j ((c.in-None.ensures j).1 at)), moved a t))
    c.give_set.ensures.now

pub returns-in-Some-clause-evaluations : goal.returns-in-Some-clause-evaluations
returns-in-Some-clause-evaluations g c =
    let p = c.args.policies.now in
    within-none (MayGoIn p c.args.i) (GoesIn p c.args.i) (evaluations_in c.args.meter.now)
    (λ t goes. goes.0 c.in-Some.field-0 ((c.in-Some.ensures c.in-Some.field-0).0 refl))

pub returns-in-None-clause-evaluations : goal.returns-in-None-clause-evaluations
returns-in-None-clause-evaluations g c =
    let p = c.args.policies.now in
    let r = old_in p in
    on_ok_weaker c.give_set.result
    (within-weaker (IsKept p.symbols.now (meaning_in r)) (IsHeld p.symbols.now (meaning_in r) (set_at r c.args.i)) (MayGoIn p c.args.i) (GoesIn p c.args.i)
    (evaluations_in c.args.meter.now) (evaluations_in c.give_set.new.meter) (λ t kept. (λ j at. none-some j ((c.in-None.ensures j).1 at), kept)) (λ t goes. goes.1))
    c.give_set.ensures.evaluations
