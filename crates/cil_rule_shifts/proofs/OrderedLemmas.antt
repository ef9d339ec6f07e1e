-- Permits put in their order, each once.
use Rattle.cil_rule_shifts.proofs.Common.{◌≡◌, ℕ, ◌<◌, ◌==◌, Bool, true, false, List, length, get_or, refl, sym, ap, ◌∙◌, subst, eqb-true, has_permit, is_permit, permit_cmp, Permit}
use Rattle.std.proofs.Common.{Contains}
use Rattle.std.specs.Cmp.{both_tied, unsigned_ties, IsEquivalence}
use Rattle.std.specs.List.{dedup}
use Rattle.std.specs.List.Sorted.{IsPermutation}
use Rattle.std.specs.Ordering.{eq_by_cmp}
use Rattle.std.proofs.lemmas.Bool.{and_parts}
use Rattle.std.proofs.lemmas.Cmp.{eq_by_cmp_equiv}
use Rattle.std.proofs.lemmas.List.Folds.{list_any_at, Any-from_list_any}
use Rattle.std.proofs.lemmas.List.Kept.{Contains-dedup, Contains-from_dedup}
use Rattle.std.proofs.lemmas.List.Sorted.{list_any-IsPermutation}
use Rattle.cil_rule_shifts.specs.contracts.permit.PermitPartialEq.TheImpl as derived
use Rattle.cil_rule_shifts.proofs.PermitLemmas.{is-itself, permit-total}

-- permits are equal where they tie
pub ties : (x y : Permit) → derived.eq-value.it x y ≡ eq_by_cmp permit_cmp x y
ties x y = both_tied _ _ _ _ (unsigned_ties x.class y.class) (unsigned_ties x.permission y.permission)

equal-permits : IsEquivalence derived.eq-value.it
equal-permits = subst IsEquivalence (sym (λ i x y. ties x y i)) (eq_by_cmp_equiv permit-total)

one-permit : (x y : Permit) → derived.eq-value.it x y ≡ true → x ≡ y
one-permit x y same =
    let (classes, permissions) = and_parts (x.class == y.class) (x.permission == y.permission) same in
    λ i. record { class = eqb-true x.class y.class classes i; permission = eqb-true x.permission y.permission permissions i }

module _ (c q : ℕ) where
  abbrev permit : Permit
  permit = record { class = c; permission = q }

  contained : (xs : List Permit) → has_permit xs c q ≡ true → Contains xs permit
  contained xs any = by (Any-from_list_any (is_permit c q) xs any)
    where
      by : (k : ℕ) × (x : Permit) × (k < length xs) × (get_or xs k x ≡ x) × (is_permit c q x ≡ true) → Contains xs permit
      by (k, x, low, is, same) = subst (Contains xs) (one-permit x permit same) (k, low, is)

  listed : (xs : List Permit) → Contains xs permit → has_permit xs c q ≡ true
  listed xs (k, low, is) = list_any_at (is_permit c q) xs k permit low (ap (is_permit c q) is ∙ is-itself permit)

  -- the list has what it had
  pub deduped : (xs ys : List Permit) → IsPermutation xs ys → has_permit (dedup derived.eq-value.it ys) c q ≡ has_permit xs c q
  deduped xs ys permuted =
      same-bool (has_permit (dedup derived.eq-value.it ys) c q) (has_permit ys c q) (λ e. listed ys (Contains-from_dedup derived.eq-value.it ys permit (contained (dedup derived.eq-value.it ys) e)))
      (λ e. listed (dedup derived.eq-value.it ys) (Contains-dedup equal-permits one-permit ys permit (contained ys e)))
      ∙ sym (list_any-IsPermutation (is_permit c q) xs ys permuted)
    where
      same-bool : (a b : Bool) → (a ≡ true → b ≡ true) → (b ≡ true → a ≡ true) → a ≡ b
      same-bool true b to back = sym (to refl)
      same-bool false true to back = back refl
      same-bool false false to back = refl
