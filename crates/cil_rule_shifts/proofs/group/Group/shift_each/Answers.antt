use Rattle.cil_rule_shifts.proofs.Common.{◌∙◌, ap, arith, count_now, is_among, one_if, refl, RisesBy}
use Rattle.std.proofs.lemmas.Result.{IfOk-from_err}
use Rattle.cil_rule_shifts.specs.Amounts.{ones, AreMoved}
use Rattle.cil_rule_shifts.specs.Groups.{had_by, has_by, moves_by}
use Rattle.cil_rule_shifts.proofs.KeyLemmas.{at-source, below-done, below-more, below-new, same-given}
use Rattle.cil_rule_shifts.proofs.ShiftLemmas.{none-below, short-source, source-above, source-bounded, source-moved, sources-moved}
use Rattle.cil_rule_shifts.proofs.group.Group.shift_each.Goals as goal

pub loop-source-init : goal.loop-source-init
loop-source-init g c =
    let group = c.args.self in
    let among = is_among group.sources in
    record {
      now = λ k t. none-below k.source (count_now c.args.lines.now k t) (had_by among group (k, t)) (has_by among group (k, t));
      before = λ _ k t. refl;
      settled = c.requires.settled;
      moved = below-new among group.head group.was.now group.is.now;
    }

pub overflow_add-from : goal.overflow_add-from
overflow_add-from g c = let low = short-source c.args.self.sources c.loop-source.from c.in-Some.source c.requires.sound.sources c.in-Some.ensures in omega (arith, low)

pub shift_source-requires : goal.shift_source-requires
shift_source-requires g c =
    let group = c.args.self in
    let among = is_among group.sources in
    let next = c.in-Some.ensures in
    record {
      sound = c.requires.sound;
      counted = λ k t.
          let less = source-above c.loop-source.from c.in-Some.source k.source (count_now c.loop-source.lines k t) (count_now c.args.lines.now k t) (had_by among group (k, t)) (has_by among group (k, t))
          next.from_on (c.loop-source.invariant.now k t) (c.requires.counted k t) in
          omega (arith, less, ap one_if (at-source among group.head group.was.now c.in-Some.source next.holds k t));
      settled = c.loop-source.invariant.settled;
    }

pub loop-source-preserved : goal.loop-source-preserved
loop-source-preserved g c =
    let group = c.args.self in
    let among = is_among group.sources in
    let source = c.in-Some.source in
    let next = c.in-Some.ensures in
    let step = c.in_ok-here.ensures in
    let so_far = c.loop-source.invariant in
    record {
      now = λ k t.
          source-moved c.loop-source.from source k.source (count_now c.shift_source.new.lines k t) (count_now c.loop-source.lines k t) (count_now c.args.lines.now k t) (had_by among group (k, t))
          (has_by among group (k, t)) next.from_on (λ low high. same-given among group.head group.was.now group.is.now k t (next.first k.source low high)) (so_far.now k t)
          (omega (arith, step.now k t, ap one_if (at-source among group.head group.was.now source next.holds k t), ap one_if (at-source among group.head group.is.now source next.holds k t)));
      before = λ kept k t. step.before kept k t ∙ so_far.before kept k t;
      settled = step.settled;
      moved = below-more among group.head group.was.now group.is.now c.loop-source.from source c.loop-source.moved c.in_ok-here.here c.saturating_add-moved.result next so_far.moved step.moved c.saturating_add-moved.ensures;
    }

pub returns-in_err-here : goal.returns-in_err-here
returns-in_err-here g c =
    let group = c.args.self in
    let among = is_among group.sources in
    let next = c.in-Some.ensures in
    record {
      settled = c.in_err-here.ensures.settled;
      now = IfOk-from_err c.from_residual.result (λ _. AreMoved c.args.lines.now c.shift_source.new.lines (ones (had_by among group)) (ones (has_by among group))) c.from_residual.ensures.0;
      bounded = λ k t.
          source-bounded c.loop-source.from c.in-Some.source k.source (count_now c.shift_source.new.lines k t) (count_now c.loop-source.lines k t) (count_now c.args.lines.now k t) (had_by among group (k, t))
          (has_by among group (k, t)) next.from_on (c.loop-source.invariant.now k t)
          (omega (arith, c.in_err-here.ensures.bounded k t, ap one_if (at-source among group.head group.is.now c.in-Some.source next.holds k t)));
      before = λ kept k t. c.in_err-here.ensures.before kept k t ∙ c.loop-source.invariant.before kept k t;
      moved = IfOk-from_err c.from_residual.result (RisesBy (moves_by among group) 0) c.from_residual.ensures.0;
    }

pub returns : goal.returns
returns g c =
    let group = c.args.self in
    let among = is_among group.sources in
    let so_far = c.loop-source.invariant in
    let now : AreMoved c.args.lines.now c.loop-source.lines (ones (had_by among group)) (ones (has_by among group)) = λ k t. sources-moved c.loop-source.from k.source (count_now c.loop-source.lines k t) (count_now c.args.lines.now k t) (had_by among group (k, t)) (has_by among group (k, t))
    (λ past. same-given among group.head group.was.now group.is.now k t (c.in_default.ensures k.source past)) (so_far.now k t) in
    record {
      settled = so_far.settled;
      now = now;
      bounded = λ k t. let moved = now k t in omega (arith, moved);
      before = so_far.before;
      moved = below-done among group.head group.was.now group.is.now c.loop-source.from c.loop-source.moved c.in_default.ensures so_far.moved;
    }
