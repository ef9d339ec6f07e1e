use Rattle.cil_table_updates.proofs.Common.{◌∙◌, ◌&&◌, ap, arith, refl, on_ok_weaker, adjustments_in, covers_by, has_permit, members_of, one_if, reaches, subst, sym, AreInOrder}
use Rattle.cil_table_updates.proofs.AdjustedLemmas.{take-rises}
use Rattle.cil_table_updates.proofs.MoveLemmas.{gives-covered, gives-nothing}
use Rattle.cil_table_updates.proofs.moves.take_rule.Goals as goal

pub shift_as-requires-clause-counted : goal.shift_as-requires-clause-counted
shift_as-requires-clause-counted g c key t =
    let rule = c.args.rule.now in
    let was =
    gives-covered rule.kind c.in_ok-reach.reach c.deref.result.now (members_of c.args.policy.now.members) c.args.policy.now.numbering.now.symbols rule refl
    c.in_ok-reach.ensures.sources c.in_ok-reach.ensures.targets (λ s u d p. ap (λ l. reaches c.in_ok-reach.reach s u && has_permit l d p) c.deref.ensures.value ∙ c.in_ok-permits.ensures.same s u d p) key t in
    omega (arith, c.requires.counted key t, ap one_if was)

pub returns : goal.returns
returns g c =
    let symbols = c.args.policy.now.numbering.now.symbols in
    let members = members_of c.args.policy.now.members in
    let rule = c.args.rule.now in
    let none = gives-nothing rule.kind c.none-none.result c.deref-2.result.now c.none-none.ensures.none in
    let was =
    gives-covered rule.kind c.in_ok-reach.reach c.deref.result.now members symbols rule refl c.in_ok-reach.ensures.sources c.in_ok-reach.ensures.targets
    (λ s u d p. ap (λ l. reaches c.in_ok-reach.reach s u && has_permit l d p) c.deref.ensures.value ∙ c.in_ok-permits.ensures.same s u d p) in
    record {
      now = on_ok_weaker c.shift_as.result (λ moved key t. omega (arith, moved key t, ap one_if (none key t), ap one_if (was key t))) c.shift_as.ensures.now;
      before = c.shift_as.ensures.before;
      bounded = λ key t. omega (arith, c.shift_as.ensures.bounded key t, ap one_if (none key t));
      adjustments =
          on_ok_weaker c.shift_as.result
          (λ rises.
          take-rises rule.kind c.in_ok-reach.reach c.none-none.result c.deref.result.now c.deref-2.result.now
          (adjustments_in c.args.meter.now) (adjustments_in c.shift_as.new.meter) rises (covers_by members symbols rule) none was)
          c.shift_as.ensures.adjustments;
      evaluations = c.shift_as.ensures.evaluations;
    }

pub shift_as-requires-clause-was : goal.shift_as-requires-clause-was
shift_as-requires-clause-was g c =
    record { reach = c.in_ok-reach.ensures.short; permits = subst AreInOrder (sym c.deref.ensures.value) c.in_ok-permits.ensures.order }

pub shift_as-requires-clause-is : goal.shift_as-requires-clause-is
shift_as-requires-clause-is g c =
    record { reach = c.none-none.ensures.short; permits = subst AreInOrder (sym c.deref-2.ensures.value) c.in_ok-permits.ensures.order }
