use Rattle.cil_member_updates.proofs.Common.{◌≡◌, ◌∙◌, length, refl, subst, sym, arith, count_now, evaluations_in, sets_in, given_by, sum-more, sum-none, within-first, within-next, AreFirst, EvaluatesFirst, MayCount, MustCount}
use Rattle.cil_member_updates.proofs.LoadLemmas.{loaded-tell}
use Rattle.cil_member_updates.proofs.SideLemmas.{sum-counts}
use Rattle.cil_member_updates.proofs.loading.load_sets.Goals as goal

pub loop-place-init : goal.loop-place-init
loop-place-init g c =
    let symbols = c.args.symbols.now in
    let r = c.args.side.now.resolved.now in
    record {
      now = λ a t. c.requires.none a t ∙ sym (sum-none (given_by symbols r a t));
      rows = refl;
      evaluations = within-first (MayCount symbols r) (MustCount symbols r) (evaluations_in c.args.meter.now);
      adjustments = refl;
    }

pub give_set-requires-clause-reads : goal.give_set-requires-clause-reads
give_set-requires-clause-reads g c =
    let low = c.loop-place-test.true in
    record {
      side = c.requires.side;
      within = omega (arith, low);
      tell = loaded-tell c.args.symbols.now c.args.side.now.resolved.now c.resolved_is_sound.ensures c.resolved_sets_are_in_order.ensures.the_same c.resolved_sets_are_in_order.ensures.in_order c.loop-place.place (omega (arith, low))
          (count_now c.loop-place.rows) c.loop-place.invariant.now;
    }

pub loop-place-preserved : goal.loop-place-preserved
loop-place-preserved g c =
    let symbols = c.args.symbols.now in
    let r = c.args.side.now.resolved.now in
    let step = c.in_ok-give_set.ensures in
    let j = c.loop-place.place in
    record {
      now = λ a t. omega (arith, c.settle_many.ensures.now a t, step.now a t, c.loop-place.invariant.now a t, sum-more (given_by symbols r a t) j);
      rows = c.settle_many.ensures.rows ∙ step.stays.rows ∙ c.loop-place.invariant.rows;
      evaluations = within-next (MayCount symbols r) (MustCount symbols r) j (evaluations_in c.args.meter.now) (evaluations_in c.loop-place.meter)
          (evaluations_in c.give_set.new.meter) c.loop-place.invariant.evaluations step.evaluations;
      adjustments = step.stays.adjustments ∙ c.loop-place.invariant.adjustments;
    }

pub returns : goal.returns
returns g c =
    let symbols = c.args.symbols.now in
    let r = c.args.side.now.resolved.now in
    let end = c.loop-place-test.false in
    let within = c.loop-place.auto.place-end in
    let all = c.sets_len-place-end.ensures in
    let last : c.loop-place.place ≡ length (sets_in r) = omega (arith, end, within, all) in
    record {
      now = sum-counts symbols r (count_now c.loop-place.rows) (subst (λ n. AreFirst symbols r n c.loop-place.rows) last c.loop-place.invariant.now);
      rows = c.loop-place.invariant.rows;
      evaluations = subst (λ n. EvaluatesFirst symbols r n c.args.meter.now c.loop-place.meter) last c.loop-place.invariant.evaluations;
      adjustments = c.loop-place.invariant.adjustments;
    }
