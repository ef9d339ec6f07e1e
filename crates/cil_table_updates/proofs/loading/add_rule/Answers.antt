use Rattle.cil_table_updates.proofs.Common.{◌≡◌, ◌∙◌, ◌&&◌, ℕ, ap, arith, refl, SymbolKey, adjustments_in, granted, has_permit, members_of, one_if, reaches, gives_it, gives_by, subst, sym, AreInOrder}
use Rattle.cil_table_updates.proofs.AdjustedLemmas.{counter-rises}
use Rattle.cil_table_updates.proofs.MoveLemmas.{gives-covered}
use Rattle.cil_table_updates.proofs.loading.add_rule.Goals as goal

pub returns : goal.returns
returns g c =
    let rule = c.args.rule.now in
    let is : (key : SymbolKey) (t : ℕ) → granted rule.kind c.in_ok-reach.reach c.deref.result.now key t ≡ gives_by c.args.policy.now key t rule =
    gives-covered rule.kind c.in_ok-reach.reach c.deref.result.now (members_of c.args.policy.now.members) c.args.policy.now.numbering.now.symbols rule refl
    c.in_ok-reach.ensures.sources c.in_ok-reach.ensures.targets (λ s u d p. ap (λ l. reaches c.in_ok-reach.reach s u && has_permit l d p) c.deref.ensures.value ∙ c.in_ok-permits.ensures.same s u d p) in
    record {
      settled = c.in_ok-given.ensures.settled;
      now = λ key t. omega (arith, c.in_ok-given.ensures.now key t, ap one_if (is key t));
      bounded = λ key t. omega (arith, c.in_ok-given.ensures.bounded key t, ap one_if (is key t));
      adjustments =
          counter-rises (λ p. granted rule.kind c.in_ok-reach.reach c.deref.result.now p.0 p.1) (gives_it c.args.policy.now rule) is (adjustments_in c.args.meter.now) c.in_ok-given.given
          (adjustments_in c.adjusted.new.self) c.in_ok-given.ensures.given c.adjusted.ensures.adjustments;
      evaluations = c.adjusted.ensures.evaluations;
    }

pub returns-in_err-given-clause-bounded : goal.returns-in_err-given-clause-bounded
returns-in_err-given-clause-bounded g c key t =
    let rule = c.args.rule.now in
    let is =
    gives-covered rule.kind c.in_ok-reach.reach c.deref.result.now (members_of c.args.policy.now.members) c.args.policy.now.numbering.now.symbols rule refl
    c.in_ok-reach.ensures.sources c.in_ok-reach.ensures.targets (λ s u d p. ap (λ l. reaches c.in_ok-reach.reach s u && has_permit l d p) c.deref.ensures.value ∙ c.in_ok-permits.ensures.same s u d p) key t in
    omega (arith, c.in_err-given.ensures.bounded key t, ap one_if is)

pub put_rule-requires-clause-is : goal.put_rule-requires-clause-is
put_rule-requires-clause-is g c =
    record { reach = c.in_ok-reach.ensures.short; permits = subst AreInOrder (sym c.deref.ensures.value) c.in_ok-permits.ensures.order }
