use Rattle.cil_member_updates.proofs.Common.{◌≡◌, ◌∙◌, subst, arith, count_before, count_now, evaluations_in, old_in, old_sets, set_at, sum-none, within-first, within-next, AreLowered, EvaluatesGone, GoesIn, MayGoIn, gave_in, gone_in}
use Rattle.cil_member_updates.proofs.MovedLemmas.{stays-first, stays-next}
use Rattle.cil_member_updates.proofs.PassLemmas.{gone-counted, gone-more}
use Rattle.cil_member_updates.proofs.SideLemmas.{counts-members, counts-sum}
use Rattle.cil_member_updates.proofs.passes.lower_gone.Goals as goal

pub loop-i-init : goal.loop-i-init
loop-i-init g c =
    let p = c.args.policies.now in
    record {
      now = λ a t. omega (arith, counts-sum p.symbols.now (old_in p) (count_now c.args.rows.now) c.requires.now a t, sum-none (gone_in p a t));
      stays = stays-first c.args.rows.now c.args.meter.now;
      evaluations = within-first (MayGoIn p) (GoesIn p) (evaluations_in c.args.meter.now);
    }

pub lower_gone_set-requires-clause-read : goal.lower_gone_set-requires-clause-read
lower_gone_set-requires-clause-read g c =
    let p = c.args.policies.now in
    let low = c.loop-i-test.true in
    record {
      side = c.requires.policies.old;
      within = omega (arith, low);
      tell = counts-members p.symbols.now (old_in p) c.resolved_is_sound.ensures c.resolved_sets_are_in_order.ensures.the_same (set_at (old_in p) c.loop-i.i) (count_before c.loop-i.rows)
          (λ a t. c.loop-i.invariant.stays.counts a t ∙ c.requires.before a t);
    }

pub lower_gone_set-requires-clause-above : goal.lower_gone_set-requires-clause-above
lower_gone_set-requires-clause-above g c a t =
    let p = c.args.policies.now in
    gone-counted (gave_in p a t) (old_sets p) p.matching.now.ahead (count_now c.loop-i.rows a t) c.loop-i.i (let low = c.loop-i-test.true in omega (arith, low)) (c.loop-i.invariant.now a t)

pub loop-i-preserved : goal.loop-i-preserved
loop-i-preserved g c =
    let p = c.args.policies.now in
    let step = c.in_ok-lower_gone_set.ensures in
    record {
      now = λ a t.
          gone-more (gave_in p a t) (old_sets p) p.matching.now.ahead (count_now c.loop-i.rows a t) (count_now c.lower_gone_set.new.rows a t) c.loop-i.i (c.loop-i.invariant.now a t) (step.now a t);
      stays = stays-next c.args.rows.now c.loop-i.rows c.lower_gone_set.new.rows c.args.meter.now c.loop-i.meter c.lower_gone_set.new.meter c.loop-i.invariant.stays step.stays;
      evaluations = within-next (MayGoIn p) (GoesIn p) c.loop-i.i (evaluations_in c.args.meter.now) (evaluations_in c.loop-i.meter)
          (evaluations_in c.lower_gone_set.new.meter) c.loop-i.invariant.evaluations step.evaluations;
    }

pub returns : goal.returns
returns g c =
    let p = c.args.policies.now in
    let end = c.loop-i-test.false in
    let within = c.loop-i.auto.i-end in
    let all = c.sets_len-i-end.ensures in
    let last : c.loop-i.i ≡ old_sets p = omega (arith, end, within, all) in
    record {
      now = subst (λ n. AreLowered p n c.loop-i.rows) last c.loop-i.invariant.now;
      stays = c.loop-i.invariant.stays;
      evaluations = subst (λ n. EvaluatesGone p n c.args.meter.now c.loop-i.meter) last c.loop-i.invariant.evaluations;
    }
