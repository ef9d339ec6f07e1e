use Rattle.cil_table_updates.proofs.Common.{◌∙◌, refl, arith, length, subst, ◌<◌, adjustments_in, across, rises-first, rises-next, sum-more, sum-none, sum-part, turns, given}
use Rattle.cil_table_updates.proofs.passes.put_new.Goals as goal

pub loop-j-init : goal.loop-j-init
loop-j-init g c = record {
  now = λ key t.
      let none = sum-none (across (given c.args.update.now.old.now key t) c.args.update.now.matching.now.back) in
      let nothing = sum-none (given c.args.update.now.new.now key t) in
      omega (arith, none, nothing);
  before = λ key t. refl;
  adjustments = rises-first (turns c.args.update.now.old.now c.args.update.now.new.now c.args.update.now.matching.now) (adjustments_in c.args.meter.now);
  evaluations = refl;
}

pub put_or_replace-requires-clause-counted : goal.put_or_replace-requires-clause-counted
put_or_replace-requires-clause-counted g c key t =
    let within = subst (λ l. c.loop-j.j < length l) c.rules-j-end.ensures.rules c.loop-j-test.true in
    let part = sum-part (across (given c.args.update.now.old.now key t) c.args.update.now.matching.now.back) c.loop-j.j (length c.args.update.now.new.now.resolved.now.rules.items) within in
    let put = c.loop-j.invariant.now key t in
    let all = c.requires.counted key t in
    omega (arith, part, put, all)

pub loop-j-preserved : goal.loop-j-preserved
loop-j-preserved g c = record {
  now = λ key t.
      let was = sum-more (across (given c.args.update.now.old.now key t) c.args.update.now.matching.now.back) c.loop-j.j in
      let is = sum-more (given c.args.update.now.new.now key t) c.loop-j.j in
      let put = c.loop-j.invariant.now key t in
      let one = c.in_ok-put_or_replace.ensures.now key t in
      omega (arith, was, is, put, one);
  before = λ key t. c.in_ok-put_or_replace.ensures.before key t ∙ c.loop-j.invariant.before key t;
  adjustments =
      rises-next (turns c.args.update.now.old.now c.args.update.now.new.now c.args.update.now.matching.now) c.loop-j.j (adjustments_in c.args.meter.now) (adjustments_in c.loop-j.meter) (adjustments_in c.put_or_replace.new.meter) c.loop-j.invariant.adjustments
      c.in_ok-put_or_replace.ensures.adjustments;
  evaluations = c.in_ok-put_or_replace.ensures.evaluations ∙ c.loop-j.invariant.evaluations;
}

pub returns-in_err-put_or_replace-clause-bounded : goal.returns-in_err-put_or_replace-clause-bounded
returns-in_err-put_or_replace-clause-bounded g c key t =
    let within = subst (λ l. c.loop-j.j < length l) c.rules-j-end.ensures.rules c.loop-j-test.true in
    let part = sum-part (given c.args.update.now.new.now key t) c.loop-j.j (length c.args.update.now.new.now.resolved.now.rules.items) within in
    let put = c.loop-j.invariant.now key t in
    let one = c.in_err-put_or_replace.ensures.bounded key t in
    omega (arith, part, put, one)
