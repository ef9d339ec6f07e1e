use Rattle.cil_rule_shifts.proofs.Common.{◌∙◌, ap, arith, differs, gives, is_among, moves_part, moves_to, one_if, refl, rises-same, sym}
use Rattle.std.proofs.lemmas.Result.{IfOk-weaker}
use Rattle.cil_rule_shifts.proofs.KeyLemmas.{split}
use Rattle.cil_rule_shifts.proofs.PartLemmas.{part-gives}
use Rattle.cil_rule_shifts.proofs.ReachLemmas.{takes-nothing}
use Rattle.cil_rule_shifts.proofs.part.shift_part.Goals as goal

pub group_of-requires-clause-none : goal.group_of-requires-clause-none
group_of-requires-clause-none g c s t = takes-nothing _ s refl t

pub shift-requires : goal.shift-requires
shift-requires g c =
    let group = c.group_of.result in
    let of = c.group_of.ensures in
    let sources = c.args.sources in
    record {
      sound = of.group;
      counted = λ k t. omega (arith, c.requires.counted k t, ap one_if (part-gives c.args.head sources group of.head of.sources sources.was.now group.was.now of.was (k, t)));
      settled = λ good. c.requires.settled (sym of.for_good ∙ good);
    }

pub returns : goal.returns
returns g c =
    let group = c.group_of.result in
    let of = c.group_of.ensures in
    let sources = c.args.sources in
    let head = c.args.head in
    let had = part-gives head sources group of.head of.sources sources.was.now group.was.now of.was in
    let has = part-gives head sources group of.head of.sources sources.is.now group.is.now of.is in
    let step = c.shift.ensures in
    record {
      settled = λ good. step.settled (of.for_good ∙ good);
      now = IfOk-weaker c.shift.result _ _ (λ _ moved k t. omega (arith, moved k t, ap one_if (had (k, t)), ap one_if (has (k, t)))) step.now;
      bounded = λ k t. omega (arith, step.bounded k t, ap one_if (has (k, t)));
      before = λ kept. step.before (of.for_good ∙ kept);
      moved = IfOk-weaker c.shift.result _ _
          (λ n. rises-same (moves_to (is_among group.sources) group.head group.was.now group.is.now) (moves_part sources head) 0 n
          (λ p. (λ i. differs (had p i) (has p i)) ∙ sym (split (is_among sources p.0.source) (gives sources.was.now head p.0 p.1) (gives sources.is.now head p.0 p.1))))
          step.moved;
    }
