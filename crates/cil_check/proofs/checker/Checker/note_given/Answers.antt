use Rattle.cil_check.proofs.Common.{◌≡◌, ℕ, ◌<◌, ◌||◌, Bool, true, false, List, length, get_or, refl, sym, ap, ◌∙◌, subst, arith, add-one, length-map, true≢false, Some, Placed, IsOf, kind_of, given_kind, first_at, Actual, Common}
use Rattle.std.proofs.Common.{slice_get}
use Rattle.cil_bind.specs.AboutNames.{name_places}
use Rattle.cil_bind.specs.Binding.{kinds_of}
use Rattle.cil_bind.proofs.AboutNamesLemmas.{after_places, place-there, to-place}
use Rattle.cil_check.proofs.InheritedLemmas.{inherited-first}
use Rattle.cil_check.proofs.NoteLemmas.{IsNotedTo, noted-end, noted-over, noted-stays}
use Rattle.cil_check.proofs.SeenLemmas.{there-at}
use Rattle.cil_check.proofs.checker.Checker.note_given.Goals as goal

neither : (a b : Bool) → (a || b) ≡ false → (a ≡ false) × (b ≡ false)
neither false b none = (refl, none)
neither true b none = absurd (true≢false none)

-- the place of an index is that of a statement
within : (policy : List Placed) (places : List ℕ) (k : ℕ) → places ≡ name_places 0 (kinds_of policy) → k < length places → get_or places k 0 < length policy
within policy places k are low =
    let less = place-there (kinds_of policy) places k are low in
    let long = length-map policy (λ s. kind_of s.form) in
    omega (arith, less, long)

pub loop-k-init : goal.loop-k-init
loop-k-init g c = record {
  bound = refl;
  permissions = refl;
  same = ap (λ v. length v.0) c.requires.inherited ∙ sym (ap (λ v. length v.1) c.requires.inherited);
  noted = λ policy is. record {
    actuals_are = λ i s at first. ap (λ l. first_at l i) c.requires.actuals;
    commons_are = λ i s at first. ap (λ l. first_at l i) c.requires.commons;
    inherited_are = inherited-first policy c.args.self.now.inherited (ap (λ v. v.0) c.requires.inherited);
  };
}

pub kind-requires : goal.kind-requires
kind-requires g c =
    let (policy, is) = c.requires.is in
    (policy, subst (λ b. IsOf b policy) (sym c.loop-k.invariant.bound) is, within policy c.name_places-places.result.now c.loop-k.k (c.name_places-places.ensures policy is) c.loop-k-test.true)

pub note-requires : goal.note-requires
note-requires g c =
    let (policy, is) = c.requires.is in record {
      is = (policy, subst (λ b. IsOf b policy) (sym c.loop-k.invariant.bound) is, within policy c.name_places-places.result.now c.loop-k.k (c.name_places-places.ensures policy is) c.loop-k-test.true);
      same = c.loop-k.invariant.same;
    }

pub loop-k-preserved-then-not-gives_any : goal.loop-k-preserved-then-not-gives_any
loop-k-preserved-then-not-gives_any g c = record {
  bound = c.loop-k.invariant.bound;
  permissions = c.loop-k.invariant.permissions;
  same = c.loop-k.invariant.same;
  noted = λ policy is.
      let self = c.loop-k.self in
      let are = c.name_places-places.ensures policy (subst (λ b. IsOf b policy) c.loop-k.invariant.bound is) in
      let so_far = to-place (IsNotedTo policy self.actuals self.commons self.inherited) (kinds_of policy) places are (noted-stays policy self.actuals self.commons self.inherited) c.loop-k.k c.loop-k-test.true (c.loop-k.invariant.noted policy is) in
      let (s, at) = there-at policy place (within policy places c.loop-k.k are c.loop-k-test.true) in
      let (no_actual, no_common) = none policy s is at in
      subst (IsNotedTo policy self.actuals self.commons self.inherited) (ap (after_places 0 places) (sym (add-one c.loop-k.k)))
      (noted-over policy self.actuals self.commons self.inherited place s at no_actual no_common so_far);
}
  where
    places : List ℕ
    places = c.name_places-places.result.now

    place : ℕ
    place = get_or places c.loop-k.k 0

    none : (policy : List Placed) (s : Placed) → IsOf c.loop-k.self.bound policy → slice_get policy place ≡ Some s → (given_kind Actual (kind_of s.form) ≡ false) × (given_kind Common (kind_of s.form) ≡ false)
    none policy s is at =
        neither (given_kind Actual (kind_of s.form)) (given_kind Common (kind_of s.form))
        (ap (λ k. given_kind Actual k || given_kind Common k) (sym (c.kind.ensures policy s is at)) ∙ sym c.gives_any.ensures ∙ c.if-not-gives_any.true)

pub loop-k-preserved : goal.loop-k-preserved
loop-k-preserved g c = record {
  bound = c.in_ok-note.ensures.bound ∙ c.loop-k.invariant.bound;
  permissions = c.in_ok-note.ensures.permissions ∙ c.loop-k.invariant.permissions;
  same = c.in_ok-note.ensures.same;
  noted = λ policy is.
      let self = c.loop-k.self in
      let new = c.note.new.self in
      let was = subst (λ b. IsOf b policy) c.in_ok-note.ensures.bound is in
      let are = c.name_places-places.ensures policy (subst (λ b. IsOf b policy) c.loop-k.invariant.bound was) in
      let so_far = to-place (IsNotedTo policy self.actuals self.commons self.inherited) (kinds_of policy) places are (noted-stays policy self.actuals self.commons self.inherited) c.loop-k.k c.loop-k-test.true (c.loop-k.invariant.noted policy was) in
      let (s, at) = there-at policy (get_or places c.loop-k.k 0) (within policy places c.loop-k.k are c.loop-k-test.true) in
      subst (IsNotedTo policy new.actuals new.commons new.inherited) (ap (after_places 0 places) (sym (add-one c.loop-k.k))) (record {
        actuals_are = c.in_ok-note.ensures.actuals policy s was at so_far.actuals_are;
        commons_are = c.in_ok-note.ensures.commons policy s was at so_far.commons_are;
        inherited_are = c.in_ok-note.ensures.inherited policy s was at so_far.inherited_are;
      });
}
  where
    places : List ℕ
    places = c.name_places-places.result.now

pub returns-clause-actuals : goal.returns-clause-actuals
returns-clause-actuals g c = λ policy is. (noted-end policy c.loop-k.self.actuals c.loop-k.self.commons c.loop-k.self.inherited c.name_places-places.result.now c.loop-k.k (c.name_places-places.ensures policy is) (omega arith) (c.loop-k.invariant.noted policy (subst (λ b. IsOf b policy) (sym c.loop-k.invariant.bound) is))).0

pub returns-clause-commons : goal.returns-clause-commons
returns-clause-commons g c = λ policy is. (noted-end policy c.loop-k.self.actuals c.loop-k.self.commons c.loop-k.self.inherited c.name_places-places.result.now c.loop-k.k (c.name_places-places.ensures policy is) (omega arith) (c.loop-k.invariant.noted policy (subst (λ b. IsOf b policy) (sym c.loop-k.invariant.bound) is))).1

pub returns-clause-inherited : goal.returns-clause-inherited
returns-clause-inherited g c = λ policy is. (noted-end policy c.loop-k.self.actuals c.loop-k.self.commons c.loop-k.self.inherited c.name_places-places.result.now c.loop-k.k (c.name_places-places.ensures policy is) (omega arith) (c.loop-k.invariant.noted policy (subst (λ b. IsOf b policy) (sym c.loop-k.invariant.bound) is))).2

pub returns-clause-few : goal.returns-clause-few
returns-clause-few g c = λ policy is. let count = c.len-count.ensures policy is in let low = c.in_ok-counted_in_32_bits.ensures.few in omega (arith, count, low)
