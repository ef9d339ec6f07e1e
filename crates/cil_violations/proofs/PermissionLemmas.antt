-- Permissions in order, each once.
use Rattle.cil_violations.proofs.Common.{◌≡◌, ◌∙◌, inl, inr, ℕ, ◌+◌, ◌<◌, ◌==◌, ◌&&◌, Bool, true, false, List, [], ◌∷◌, ◌++◌, length, get_or, Some, slice_get, Contains, Ordering, Equal, eqb, refl, sym, ap, subst, arith, true≢false, dedup, IsSorted, IsPermutation, IsStrictlyIncreasing, nat_cmp, ordering_then, cases_eq, cases_lt, eq-eqb, tied_itself, same_Some, Less, Greater, NumberedRule, ClassPermission, given_in, AreInOrder, IsOrdered, is_among, is_same, or_else, permission_cmp, set_gives}
use Rattle.std.proofs.Common.{Result, Ok, Err, is_ok}
use Rattle.std.specs.List.Sorted.{IsBinarySearchResult, IsNonDecreasingBy, IsSearchInRange}
use Rattle.std.specs.Ordering.{is_lt, ordering_index, ordering_reverse}
use Rattle.std.proofs.Math.ListN.{get_or-append}
use Rattle.std.proofs.Math.Seq.{get_or-append_seam}
use Rattle.std.proofs.lemmas.Bool.{false_from_ne_true}
use Rattle.std.proofs.lemmas.Cmp.{ranked}
use Rattle.std.proofs.lemmas.List.Folds.{list_any_at, Any-from_list_any}
use Rattle.std.proofs.lemmas.List.Kept.{Contains-dedup, Contains-from_dedup, Contains-dedup_nat, IsStrictlySortedBy-dedup}
use Rattle.std.proofs.lemmas.List.Sorted.{Contains-permutation, IsPermutation-sym, searchable_from_sorted}
use Rattle.std.proofs.lemmas.Map.Keys.{IsStrictlyIncreasing-dedup, Less-from_sorted, sorted_from_strictly_increasing}
use Rattle.cil_resolve.specs.contracts.set_permissions.ClassPermissionPartialEq.TheImpl as derived
use Rattle.cil_resolve.proofs.OrderedLemmas.{equal-permissions, one-permission, ties}
pub use Rattle.cil_resolve.proofs.OrderedLemmas.{permission-total}

-- a list that was sorted and then rid of repeats
pub ordered-list : (xs ys zs : List ℕ) → IsPermutation xs ys → IsSorted nat_cmp ys → zs ≡ dedup eqb ys → IsOrdered nat_cmp xs zs
ordered-list xs ys zs moved sorted rid = record {
  rising = sorted_from_strictly_increasing zs (subst IsStrictlyIncreasing (sym rid) (IsStrictlyIncreasing-dedup ys sorted));
  same = λ n. (
    λ h. Contains-permutation ys xs n (IsPermutation-sym xs ys moved) (Contains-from_dedup eqb ys n (subst (λ l. Contains l n) rid h)),
    λ h. subst (λ l. Contains l n) (sym rid) (Contains-dedup_nat ys n (Contains-permutation xs ys n moved h)),
  );
}

-- permissions that were sorted so
pub ordered-permissions : (xs ys zs : List ClassPermission) → IsPermutation xs ys → IsSorted permission_cmp ys → zs ≡ dedup derived.eq-value.it ys
    → IsOrdered permission_cmp xs zs
ordered-permissions xs ys zs moved sorted rid = record {
  rising = subst AreInOrder (sym rid) (IsStrictlySortedBy-dedup permission-total ties ys sorted);
  same = λ g. (
    λ h. Contains-permutation ys xs g (IsPermutation-sym xs ys moved) (Contains-from_dedup derived.eq-value.it ys g (subst (λ l. Contains l g) rid h)),
    λ h. subst (λ l. Contains l g) (sym rid) (Contains-dedup equal-permissions one-permission ys g (Contains-permutation xs ys g moved h)),
  );
}

-- ---- what is listed for rules

pub or_else-none : (list : List ClassPermission) → or_else list [] ≡ list
or_else-none [] = refl
or_else-none (g ∷ list) = refl

-- permissions in order are those of themselves
pub ordered-itself : (list : List ClassPermission) → AreInOrder list → IsOrdered permission_cmp list list
ordered-itself list rising = record { rising = rising; same = λ g. (λ h. h, λ h. h) }

-- one more list, of the next rule
pub each-more : {A : Type 0} (rules : List (NumberedRule A)) (lists : List (List ClassPermission)) (list : List ClassPermission) (k : ℕ) (rule : NumberedRule A)
    → length lists ≡ k → slice_get rules k ≡ Some rule → IsOrdered permission_cmp (given_in rule.permissions) (or_else list (set_gives rule.permissions))
    → ((i : ℕ) (r : NumberedRule A) → i < k → slice_get rules i ≡ Some r → IsOrdered permission_cmp (given_in r.permissions) (or_else (get_or lists i []) (set_gives r.permissions)))
    → (i : ℕ) (r : NumberedRule A) → i < k + 1 → slice_get rules i ≡ Some r
    → IsOrdered permission_cmp (given_in r.permissions) (or_else (get_or (lists ++ list ∷ []) i []) (set_gives r.permissions))
each-more rules lists list k rule len at is each i r below there = elim (cases_eq i k) [
  | inl same ↦
      subst (λ l. IsOrdered permission_cmp (given_in r.permissions) (or_else l (set_gives r.permissions)))
      (sym (ap (λ j. get_or (lists ++ list ∷ []) j []) (same ∙ sym len) ∙ get_or-append_seam lists list [] []))
      (subst (λ (x : NumberedRule _). IsOrdered permission_cmp (given_in x.permissions) (or_else list (set_gives x.permissions)))
      (same_Some rule r (sym at ∙ ap (slice_get rules) (sym same) ∙ there)) is)
  | inr apart ↦
      subst (λ l. IsOrdered permission_cmp (given_in r.permissions) (or_else l (set_gives r.permissions)))
      (sym (get_or-append lists (list ∷ []) [] i (omega (arith, below, apart, len)))) (each i r (omega (arith, below, apart)) there)
]

-- ---- one among others

pub is-itself : (g : ClassPermission) → is_same g g ≡ true
is-itself g = ap (λ b. b && (g.permission == g.permission)) (eq-eqb g.class g.class refl) ∙ eq-eqb g.permission g.permission refl

pub same-one : (g other : ClassPermission) → is_same g other ≡ true → other ≡ g
same-one g other same = one-permission other g same

pub among-to : (others : List ClassPermission) (g : ClassPermission) → Contains others g → is_among others g ≡ true
among-to others g (k, low, is) = list_any_at (is_same g) others k g low (ap (is_same g) is ∙ is-itself g)

pub among-from : (others : List ClassPermission) (g : ClassPermission) → is_among others g ≡ true → Contains others g
among-from others g among = by (Any-from_list_any (is_same g) others among)
  where
    by : (k : ℕ) × (x : ClassPermission) × (k < length others) × (get_or others k x ≡ x) × (is_same g x ≡ true) → Contains others g
    by (k, x, low, is, same) = subst (Contains others) (same-one g x same) (k, low, is)

-- two of which one is less than the other aren't one
pub less-apart : (x y : ClassPermission) → permission_cmp x y ≡ Less → is_same x y ≡ false
less-apart x y less = false_from_ne_true (is_same x y) (λ same.
    true≢false (ap is_lt (sym less ∙ ap (permission_cmp x) (same-one x y same) ∙ tied_itself permission-total x)))

equal-numbers : (a b : ℕ) → nat_cmp a b ≡ Equal → a ≡ b
equal-numbers a b same = ranked a b Equal (sym same)

-- those that tie are one
pub equal-same : (x y : ClassPermission) → permission_cmp x y ≡ Equal → is_same y x ≡ true
equal-same x y same = by (nat_cmp x.class y.class) refl same
  where
    by : (o : Ordering) → nat_cmp x.class y.class ≡ o → ordering_then o (nat_cmp x.permission y.permission) ≡ Equal → is_same y x ≡ true
    by Less is e = absurd (let none : ⊥ = cc in none)
    by Greater is e = absurd (let none : ⊥ = cc in none)
    by Equal is e =
        ap (λ b. b && (x.permission == y.permission)) (eq-eqb x.class y.class (equal-numbers x.class y.class is))
        ∙ eq-eqb x.permission y.permission (equal-numbers x.permission y.permission e)

-- what is greater than another has that one below it
pub flipped : (x y : ClassPermission) → permission_cmp x y ≡ Greater → permission_cmp y x ≡ Less
flipped x y more = permission-total.antisymm y x ∙ ap ordering_reverse more

equal-not-less : Equal ≡ Less → ⊥
equal-not-less same = cc

greater-not-equal : Greater ≡ Equal → ⊥
greater-not-equal same = cc

module _ (xs : List ClassPermission) (rising : AreInOrder xs) (g : ClassPermission) where
  searchable : IsNonDecreasingBy (λ y. ordering_index (permission_cmp y g)) xs
  searchable = searchable_from_sorted permission-total (λ y. y) xs g (λ k d low high.
      let next : k < k + 1 = omega arith in
      ap is_lt (permission-total.antisymm (get_or xs (k + 1) d) (get_or xs k d)
      ∙ ap ordering_reverse (Less-from_sorted permission_cmp xs k (k + 1) d rising next high)))

  -- a binary search finds one where the list has it
  pub found : (r : Result ℕ ℕ) → IsSearchInRange r (length xs) → IsBinarySearchResult (λ y. permission_cmp y g) xs r → is_ok r ≡ is_among xs g
  found (Ok i) within equal = sym (list_any_at (is_same g) xs i g within (equal-same (get_or xs i g) g (equal g)))
  found (Err i) within parted = sym (false_from_ne_true (is_among xs g) (λ any. by (Any-from_list_any (is_same g) xs any)))
    where
      by : (k : ℕ) × (x : ClassPermission) × (k < length xs) × (get_or xs k x ≡ x) × (is_same g x ≡ true) → ⊥
      by (k, x, low, is, same) =
          let own : permission_cmp (get_or xs k x) g ≡ Equal =
          ap (λ y. permission_cmp y g) (is ∙ same-one g x same) ∙ tied_itself permission-total g in
          elim (cases_lt k i) [
            | inl below ↦ equal-not-less (sym own ∙ (parted searchable).0 k x (omega arith) below)
            | inr above ↦ greater-not-equal (sym ((parted searchable).1 k x above low) ∙ own)
          ]
