use Rattle.cil_table_updates.proofs.Common.{◌+◌, ◌∙◌, refl, ap, add-zero, arith, length, subst, ◌<◌, adjustments_in, alone, rises-first, rises-next, sum-more, sum-none, sum-part, count_now, goes, given}
use Rattle.cil_table_updates.proofs.passes.take_gone.Goals as goal

pub loop-i-init : goal.loop-i-init
loop-i-init g c = record {
  now = λ key t. ap (λ n. count_now c.args.lines.now key t + n) (sum-none (alone (given c.args.update.now.old.now key t) c.args.update.now.matching.now.ahead)) ∙ add-zero (count_now c.args.lines.now key t);
  before = λ key t. refl;
  adjustments = rises-first (goes c.args.update.now.old.now c.args.update.now.matching.now) (adjustments_in c.args.meter.now);
  evaluations = refl;
}

pub take_if_gone-requires-clause-counted : goal.take_if_gone-requires-clause-counted
take_if_gone-requires-clause-counted g c key t =
    let within = subst (λ l. c.loop-i.i < length l) c.rules-i-end.ensures.rules c.loop-i-test.true in
    let part = sum-part (alone (given c.args.update.now.old.now key t) c.args.update.now.matching.now.ahead) c.loop-i.i (length c.args.update.now.old.now.resolved.now.rules.items) within in
    let taken = c.loop-i.invariant.now key t in
    let all = c.requires.counted key t in
    omega (arith, part, taken, all)

pub loop-i-preserved : goal.loop-i-preserved
loop-i-preserved g c = record {
  now = λ key t.
      let more = sum-more (alone (given c.args.update.now.old.now key t) c.args.update.now.matching.now.ahead) c.loop-i.i in
      let taken = c.loop-i.invariant.now key t in
      let one = c.in_ok-take_if_gone.ensures.now key t in
      omega (arith, more, taken, one);
  before = λ key t. c.in_ok-take_if_gone.ensures.before key t ∙ c.loop-i.invariant.before key t;
  adjustments =
      rises-next (goes c.args.update.now.old.now c.args.update.now.matching.now) c.loop-i.i (adjustments_in c.args.meter.now) (adjustments_in c.loop-i.meter) (adjustments_in c.take_if_gone.new.meter) c.loop-i.invariant.adjustments
      c.in_ok-take_if_gone.ensures.adjustments;
  evaluations = c.in_ok-take_if_gone.ensures.evaluations ∙ c.loop-i.invariant.evaluations;
}
