use Rattle.cil_table_updates.proofs.Common.{◌∙◌, ◌&&◌, ap, arith, refl, sym, on_ok_weaker, adjustments_in, covers_by, has_permit, members_of, one_if, reaches, subst, AreInOrder}
use Rattle.cil_table_updates.proofs.AdjustedLemmas.{replace-rises}
use Rattle.cil_table_updates.proofs.MoveLemmas.{gives-covered}
use Rattle.cil_table_updates.proofs.moves.replace_rule.Goals as goal

pub shift_as-requires-clause-counted : goal.shift_as-requires-clause-counted
shift_as-requires-clause-counted g c key t =
    let old = c.args.old.now.policy.now in
    let was =
    gives-covered c.args.new.now.rule.now.kind c.in_ok-reached.reached c.deref.result.now (members_of old.members) old.numbering.now.symbols c.args.old.now.rule.now (sym c.requires.kind)
    c.in_ok-reached.ensures.sources c.in_ok-reached.ensures.targets (λ s u d p. ap (λ l. reaches c.in_ok-reached.reached s u && has_permit l d p) c.deref.ensures.value ∙ c.in_ok-had.ensures.same s u d p) key t in
    omega (arith, c.requires.counted key t, ap one_if was)

pub returns : goal.returns
returns g c =
    let old = c.args.old.now.policy.now in
    let new = c.args.new.now.policy.now in
    let kind = c.args.new.now.rule.now.kind in
    let was =
    gives-covered kind c.in_ok-reached.reached c.deref.result.now (members_of old.members) old.numbering.now.symbols c.args.old.now.rule.now (sym c.requires.kind)
    c.in_ok-reached.ensures.sources c.in_ok-reached.ensures.targets (λ s u d p. ap (λ l. reaches c.in_ok-reached.reached s u && has_permit l d p) c.deref.ensures.value ∙ c.in_ok-had.ensures.same s u d p) in
    let is =
    gives-covered kind c.in_ok-reaches.reaches c.deref-2.result.now (members_of new.members) new.numbering.now.symbols c.args.new.now.rule.now refl
    c.in_ok-reaches.ensures.sources c.in_ok-reaches.ensures.targets (λ s u d p. ap (λ l. reaches c.in_ok-reaches.reaches s u && has_permit l d p) c.deref-2.ensures.value ∙ c.in_ok-has.ensures.same s u d p) in
    record {
      now = on_ok_weaker c.shift_as.result (λ moved key t. omega (arith, moved key t, ap one_if (was key t), ap one_if (is key t))) c.shift_as.ensures.now;
      before = c.shift_as.ensures.before;
      bounded = λ key t. omega (arith, c.shift_as.ensures.bounded key t, ap one_if (is key t));
      adjustments =
          on_ok_weaker c.shift_as.result
          (λ rises.
          replace-rises kind c.in_ok-reached.reached c.in_ok-reaches.reaches c.deref.result.now c.deref-2.result.now (adjustments_in c.args.meter.now) (adjustments_in c.shift_as.new.meter) rises
          (covers_by (members_of old.members) old.numbering.now.symbols c.args.old.now.rule.now) (covers_by (members_of new.members) new.numbering.now.symbols c.args.new.now.rule.now) was is)
          c.shift_as.ensures.adjustments;
      evaluations = c.shift_as.ensures.evaluations;
    }

pub shift_as-requires-clause-was : goal.shift_as-requires-clause-was
shift_as-requires-clause-was g c =
    record { reach = c.in_ok-reached.ensures.short; permits = subst AreInOrder (sym c.deref.ensures.value) c.in_ok-had.ensures.order }

pub shift_as-requires-clause-is : goal.shift_as-requires-clause-is
shift_as-requires-clause-is g c =
    record { reach = c.in_ok-reaches.ensures.short; permits = subst AreInOrder (sym c.deref-2.ensures.value) c.in_ok-has.ensures.order }
