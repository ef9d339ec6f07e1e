use Rattle.cil_member_updates.proofs.Common.{◌≡◌, ◌∙◌, subst, arith, count_now, evaluations_in, new_in, new_sets, old_in, sum-none, within-first, within-next, AreRenewed, ComesIn, EvaluatesNew, MayTurnIn, gives_in, stayed_in}
use Rattle.cil_member_updates.proofs.MovedLemmas.{stays-first, stays-next}
use Rattle.cil_member_updates.proofs.PassLemmas.{renewed-more, stayed-counted}
use Rattle.cil_member_updates.proofs.SideLemmas.{renewed-tell, sum-counts}
use Rattle.cil_member_updates.proofs.passes.renew.Goals as goal

pub loop-j-init : goal.loop-j-init
loop-j-init g c =
    let p = c.args.policies.now in
    record {
      now = λ a t. omega (arith, c.requires.now a t, sum-none (stayed_in p a t), sum-none (gives_in p a t));
      stays = stays-first c.args.rows.now c.args.meter.now;
      evaluations = within-first (MayTurnIn p) (ComesIn p) (evaluations_in c.args.meter.now);
    }

pub renew_set-requires-clause-read : goal.renew_set-requires-clause-read
renew_set-requires-clause-read g c =
    let p = c.args.policies.now in
    let low = c.loop-j-test.true in
    record {
      side = c.requires.policies.new;
      within = omega (arith, low);
      tell = renewed-tell p.symbols.now (old_in p) (new_in p) p.matching.now c.requires.policies.matched c.resolved_is_sound.ensures c.resolved_sets_are_in_order.ensures.the_same c.resolved_sets_are_in_order.ensures.in_order c.loop-j.j
          (omega (arith, low)) (count_now c.loop-j.rows) c.loop-j.invariant.now;
    }

pub renew_set-requires-clause-before : goal.renew_set-requires-clause-before
renew_set-requires-clause-before g c a t = c.loop-j.invariant.stays.counts a t ∙ c.requires.before a t

pub renew_set-requires-clause-above : goal.renew_set-requires-clause-above
renew_set-requires-clause-above g c a t =
    let p = c.args.policies.now in
    stayed-counted (stayed_in p a t) (gives_in p a t) (new_sets p) (count_now c.loop-j.rows a t) c.loop-j.j (let low = c.loop-j-test.true in omega (arith, low)) (c.loop-j.invariant.now a t)

pub loop-j-preserved : goal.loop-j-preserved
loop-j-preserved g c =
    let p = c.args.policies.now in
    let step = c.in_ok-renew_set.ensures in
    record {
      now = λ a t.
          renewed-more (stayed_in p a t) (gives_in p a t) (new_sets p) (count_now c.loop-j.rows a t) (count_now c.renew_set.new.rows a t) c.loop-j.j (c.loop-j.invariant.now a t) (step.now a t);
      stays = stays-next c.args.rows.now c.loop-j.rows c.renew_set.new.rows c.args.meter.now c.loop-j.meter c.renew_set.new.meter c.loop-j.invariant.stays step.stays;
      evaluations = within-next (MayTurnIn p) (ComesIn p) c.loop-j.j (evaluations_in c.args.meter.now) (evaluations_in c.loop-j.meter)
          (evaluations_in c.renew_set.new.meter) c.loop-j.invariant.evaluations step.evaluations;
    }

pub returns : goal.returns
returns g c =
    let p = c.args.policies.now in
    let end = c.loop-j-test.false in
    let within = c.loop-j.auto.j-end in
    let all = c.sets_len-j-end.ensures in
    let last : c.loop-j.j ≡ new_sets p = omega (arith, end, within, all) in
    record {
      now = sum-counts p.symbols.now (new_in p) (count_now c.loop-j.rows)
          (λ a t. let now = subst (λ n. AreRenewed p n c.loop-j.rows) last c.loop-j.invariant.now a t in omega (arith, now));
      stays = c.loop-j.invariant.stays;
      evaluations = subst (λ n. EvaluatesNew p n c.args.meter.now c.loop-j.meter) last c.loop-j.invariant.evaluations;
    }
