use Rattle.cil_resolve.proofs.Common.{◌∙◌, length, refl, sym, ap, subst, length-map, AreGathered, ArePutInOrder}
use Rattle.cil_resolve.proofs.GatheredLemmas.{nothing-ordered, sets-give}
use Rattle.cil_resolve.proofs.given_sets.GivenSets.of.Goals as goal

pub invariant_of-result : goal.invariant_of-result
invariant_of-result g c = record {
  rising = c.in_ok-numbers.ensures.rising;
  long = sym (length-map c.in_ok-sets.sets.items (λ s. s.set)) ∙ ap length c.in_ok-sets.ensures.numbered ∙ ap length c.deref-2.ensures.value;
  nothing = nothing-ordered _ c.in_ok-of.ensures.given;
}

pub returns : goal.returns
returns g c =
    let numbers = c.in_ok-numbers.numbers.items in
    let lists = c.in_ok-lists.lists.items in
    let sets = c.in_ok-sets.sets.items in
    sets-give c.args.statements.now numbers lists _ c.in_ok-numbers.ensures (subst (λ n. AreGathered c.args.statements.now n lists) c.deref.ensures.value c.in_ok-lists.ensures)
    (subst (λ n. ArePutInOrder n lists sets) c.deref-2.ensures.value (subst (λ l. ArePutInOrder c.deref-2.result.now l sets) c.deref-3.ensures.value c.in_ok-sets.ensures)) refl
