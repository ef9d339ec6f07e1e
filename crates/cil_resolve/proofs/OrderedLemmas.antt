-- Permissions of classes in order, each once.
use Rattle.cil_resolve.proofs.Common.{◌≡◌, ◌∙◌, ℕ, ◌==◌, ◌&&◌, Bool, true, false, cond, nat_lt, List, Contains, refl, sym, subst, arith, eqb-true, ltb-true, AreInOrder, IsOrdered, permission_cmp}
use Rattle.std.proofs.Common.{ne_eqb}
use Rattle.std.specs.Cmp.{IsEquivalence, IsTotalOrder}
use Rattle.std.specs.List.{dedup}
use Rattle.std.specs.List.Sorted.{IsPermutation, IsSorted}
use Rattle.std.specs.Ordering.{eq_by_cmp, is_eq, nat_cmp, ordering_then}
use Rattle.std.specs.declared.cmp.Ordering.{Ordering}
use Rattle.std.specs.declared.cmp.Ordering.TheVariants.{Less, Equal, Greater}
use Rattle.std.proofs.lemmas.Bool.{and_parts}
use Rattle.std.proofs.lemmas.Cmp.{eq_by_cmp_equiv, nat_cmp_total, on_total, then_total}
use Rattle.std.proofs.lemmas.List.Kept.{Contains-dedup, Contains-from_dedup, IsStrictlySortedBy-dedup}
use Rattle.std.proofs.lemmas.List.Sorted.{Contains-permutation, IsPermutation-sym}
use Rattle.cil_resolve.specs.declared.set_permissions.ClassPermission.{ClassPermission}
use Rattle.cil_resolve.specs.contracts.set_permissions.ClassPermissionPartialEq.TheImpl as derived

pub permission-total : IsTotalOrder permission_cmp
permission-total = then_total (on_total (λ g. g.class) nat_cmp_total) (on_total (λ g. g.permission) nat_cmp_total)

tied-numbers : (a b : ℕ) → is_eq (nat_cmp a b) ≡ (a == b)
tied-numbers a b = by (nat_lt a b) refl
  where
    by : (l : Bool) → nat_lt a b ≡ l → is_eq (cond l Less (cond (a == b) Equal Greater)) ≡ (a == b)
    by true below = sym (ne_eqb a b (λ e. omega (arith, ltb-true a b below, e)))
    by false below = either (a == b)
      where
        either : (e : Bool) → is_eq (cond e Equal Greater) ≡ e
        either true = refl
        either false = refl

tied-both : (o p : Ordering) → is_eq (ordering_then o p) ≡ (is_eq o && is_eq p)
tied-both Less p = refl
tied-both Equal p = refl
tied-both Greater p = refl

-- they are equal where they tie
pub ties : (x y : ClassPermission) → derived.eq-value.it x y ≡ eq_by_cmp permission_cmp x y
ties x y = sym (tied-both (nat_cmp x.class y.class) (nat_cmp x.permission y.permission) ∙ (λ i. tied-numbers x.class y.class i && tied-numbers x.permission y.permission i))

pub equal-permissions : IsEquivalence derived.eq-value.it
equal-permissions = subst IsEquivalence (sym (λ i x y. ties x y i)) (eq_by_cmp_equiv permission-total)

pub one-permission : (x y : ClassPermission) → derived.eq-value.it x y ≡ true → x ≡ y
one-permission x y same =
    let parts = and_parts (x.class == y.class) (x.permission == y.permission) same in
    let classes = eqb-true x.class y.class parts.0 in
    let permissions = eqb-true x.permission y.permission parts.1 in
    λ i. record { class = classes i; permission = permissions i }

-- a list that was sorted and then rid of repeats
pub ordered-list : (xs ys zs : List ClassPermission) → IsPermutation xs ys → IsSorted permission_cmp ys → zs ≡ dedup derived.eq-value.it ys → IsOrdered xs zs
ordered-list xs ys zs moved sorted rid = record {
  rising = subst AreInOrder (sym rid) (IsStrictlySortedBy-dedup permission-total ties ys sorted);
  same = λ g. (
    λ h. Contains-permutation ys xs g (IsPermutation-sym xs ys moved) (Contains-from_dedup derived.eq-value.it ys g (subst (λ l. Contains l g) rid h)),
    λ h. subst (λ l. Contains l g) (sym rid) (Contains-dedup equal-permissions one-permission ys g (Contains-permutation xs ys g moved h)),
  );
}
