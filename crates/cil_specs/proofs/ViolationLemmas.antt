-- A policy has one list of violations.
use Rattle.cil_specs.proofs.Common.{◌≡◌, ◌⊎◌, inl, inr, List, [], ◌∷◌, refl, sym, ap, ◌∙◌, subst, AllByRecursion, IsStrictlySortedBy, is_lt, IsTotalOrder, Ordering, Less, true≢false, nat_cmp_total, on_total, then_total, tied_itself, Meaning}
use Rattle.cil_specs.specs.Violations.{Violation, AreViolations, rule_cmp, violation_cmp}
use Rattle.cil_specs.proofs.ReportLemmas.{name_total}
use Rattle.cil_specs.proofs.ReportLemmasMembers.{AnyByRecursion, contains_to, contains_from}

pub rule_total : IsTotalOrder rule_cmp
rule_total = then_total (on_total (λ r. r.module_name) name_total) (on_total (λ r. r.at.offset) nat_cmp_total)

pub violation_total : IsTotalOrder violation_cmp
violation_total =
    then_total (on_total (λ v. v.never) rule_total)
    (then_total (on_total (λ v. v.allowed) rule_total) (then_total (on_total (λ v. v.source) name_total)
    (then_total (on_total (λ v. v.target) name_total) (on_total (λ v. v.the_class) name_total))))

-- what stands in a list whose elements are all above x, is above it
pub above : {X : Type 0} (R : X → X → Ordering) (x y : X) (ys : List X) → AllByRecursion (λ z. R x z ≡ Less) ys → AnyByRecursion (λ z. z ≡ y) ys → R x y ≡ Less
above R x y [] all none = absurd none
above R x y (z ∷ ys) all (inl is) = subst (λ w. R x w ≡ Less) is all.0
above R x y (z ∷ ys) all (inr later) = above R x y ys all.1 later

-- nothing is less than itself
not-below-itself : {X : Type 0} {R : X → X → Ordering} (o : IsTotalOrder R) (x : X) → R x x ≡ Less → ⊥
not-below-itself o x less = true≢false (ap is_lt (sym less ∙ tied_itself o x))

-- nor are two each less than the other
not-both-below : {X : Type 0} {R : X → X → Ordering} (o : IsTotalOrder R) (x y : X) → R x y ≡ Less → R y x ≡ Less → ⊥
not-both-below o x y less more = not-below-itself o x (o.trans x y x less more)

-- strictly ascending lists of the same elements are one
pub one-sorted : {X : Type 0} (R : X → X → Ordering) (o : IsTotalOrder R) (xs ys : List X) → IsStrictlySortedBy R xs → IsStrictlySortedBy R ys
    → ((z : X) → AnyByRecursion (λ x. x ≡ z) xs → AnyByRecursion (λ y. y ≡ z) ys) → ((z : X) → AnyByRecursion (λ y. y ≡ z) ys → AnyByRecursion (λ x. x ≡ z) xs) → xs ≡ ys
unfolding IsStrictlySortedBy
one-sorted R o [] [] ascends rises to from = refl
one-sorted R o [] (y ∷ ys) ascends rises to from = absurd (from y (inl refl))
one-sorted R o (x ∷ xs) [] ascends rises to from = absurd (to x (inl refl))
one-sorted R o (x ∷ xs) (y ∷ ys) ascends rises to from =
    let same = heads (to x (inl refl)) (from y (inl refl)) in
    let tails =
    one-sorted R o xs ys ascends.1 rises.1 (λ z later. rest ys (subst (λ h. R h z ≡ Less) same (above R x z xs ascends.0 later)) y refl (to z (inr later)))
    (λ z later. rest xs (subst (λ h. R h z ≡ Less) (sym same) (above R y z ys rises.0 later)) x refl (from z (inr later))) in
    λ i. same i ∷ tails i
  where
    heads : (y ≡ x) ⊎ AnyByRecursion (λ z. z ≡ x) ys → (x ≡ y) ⊎ AnyByRecursion (λ z. z ≡ y) xs → x ≡ y
    heads (inl is) other = sym is
    heads (inr later) (inl is) = is
    heads (inr later) (inr there) = absurd (not-both-below o x y (above R x y xs ascends.0 there) (above R y x ys rises.0 later))

    rest : (zs : _) {z h : _} → R h z ≡ Less → (k : _) → k ≡ h → (k ≡ z) ⊎ AnyByRecursion (λ w. w ≡ z) zs → AnyByRecursion (λ w. w ≡ z) zs
    rest zs {z} {h} less k is (inl found) = absurd (not-below-itself o z (subst (λ w. R w z ≡ Less) (sym is ∙ found) less))
    rest zs less k is (inr later) = later

-- At most one list is that of the violations of a policy.
pub one-violations : (meaning : Meaning) (vs ws : List Violation) → AreViolations meaning vs → AreViolations meaning ws → vs ≡ ws
one-violations meaning vs ws are also =
    one-sorted violation_cmp violation_total vs ws are.ordered also.ordered
    (λ v there. contains_to ws v (((also.exact v).1) (((are.exact v).0) (contains_from vs v there))))
    (λ v there. contains_to vs v (((are.exact v).1) (((also.exact v).0) (contains_from ws v there))))
