-- Lists of permits, and those that another list has.
use Rattle.cil_rule_shifts.proofs.Common.{◌≡◌, ℕ, ◌+◌, ◌<◌, ◌==◌, ◌&&◌, ◌||◌, Bool, true, false, List, [], ◌∷◌, cond, length, take, get_or, refl, sym, ap, ◌∙◌, inl, inr, arith, true≢false, cases_lt, eq-eqb, eqb-true, differs, has_permit, is_permit, permit_cmp, AreInOrder, Permit}
use Rattle.std.proofs.Common.{Result, Ok, Err, filter, is_ok}
use Rattle.std.specs.List.Sorted.{IsBinarySearchResult, IsNonDecreasingBy, IsSearchInRange}
use Rattle.std.specs.Ordering.{is_lt, nat_cmp, ordering_index, ordering_reverse, ordering_then}
use Rattle.std.specs.declared.cmp.Ordering.{Ordering}
use Rattle.std.specs.declared.cmp.Ordering.TheVariants.{Less, Equal, Greater}
use Rattle.std.specs.Cmp.{IsTotalOrder}
use Rattle.std.proofs.Math.Bool.{and-false}
use Rattle.std.proofs.lemmas.Bool.{and_parts, false_from_ne_true}
use Rattle.std.proofs.lemmas.Cmp.{nat_cmp_total, on_total, ranked, then_total, tied_itself}
use Rattle.std.proofs.lemmas.List.{length-take-le, get_or-take, get_or_default}
use Rattle.std.proofs.lemmas.List.Folds.{list_any_at, Any-from_list_any}
use Rattle.std.proofs.lemmas.List.Sorted.{searchable_from_sorted}
use Rattle.std.proofs.lemmas.Map.Keys.{Less-from_sorted}
use Rattle.cil_rule_shifts.specs.contracts.permit.PermitPartialEq.TheImpl as derived
use lib.Pointwise.{pointwise}

-- ---- their order

pub permit-total : IsTotalOrder permit_cmp
permit-total = then_total (on_total (λ p. p.class) nat_cmp_total) (on_total (λ p. p.permission) nat_cmp_total)

-- two of one class and permission have one place in it
tied : (c q : ℕ) (a b : Permit) → is_permit c q a ≡ true → is_permit c q b ≡ true → permit_cmp a b ≡ Equal
tied c q a b first second =
    let one = and_parts (a.class == c) (a.permission == q) first in
    let other = and_parts (b.class == c) (b.permission == q) second in
    let classes : a.class ≡ b.class = eqb-true a.class c one.0 ∙ sym (eqb-true b.class c other.0) in
    let permissions : a.permission ≡ b.permission = eqb-true a.permission q one.1 ∙ sym (eqb-true b.permission q other.1) in
    (λ i. ordering_then (nat_cmp (classes i) b.class) (nat_cmp (permissions i) b.permission)) ∙ tied_itself permit-total b

pub is-itself : (p : Permit) → is_permit p.class p.permission p ≡ true
is-itself p = ap (λ b. b && (p.permission == p.permission)) (eq-eqb p.class p.class refl) ∙ eq-eqb p.permission p.permission refl

equal-not-less : Equal ≡ Less → ⊥
equal-not-less same = cc

greater-not-equal : Greater ≡ Equal → ⊥
greater-not-equal same = cc

-- ---- the next permit

module _ (xs : List Permit) (ordered : AreInOrder xs) (i : ℕ) (d : Permit) (within : i < length xs) where
  abbrev next : Permit
  next = get_or xs i d

  -- the next one doesn't stand in the front
  pub new-permit : (c q : ℕ) → is_permit c q next ≡ true → has_permit (take i xs) c q ≡ false
  new-permit c q here = false_from_ne_true (has_permit (take i xs) c q) (λ front. by (Any-from_list_any (is_permit c q) (take i xs) front))
    where
      by : (k : ℕ) × (x : Permit) × (k < length (take i xs)) × (get_or (take i xs) k x ≡ x) × (is_permit c q x ≡ true) → ⊥
      by (k, x, low, is, same) =
          let short = length-take-le i xs (omega (arith, within)) in
          let below : k < i = omega (arith, low, short) in
          let less = Less-from_sorted permit_cmp xs k i x ordered below within in
          let first : get_or xs k x ≡ x = sym (get_or-take i xs k x below) ∙ is in
          let second : get_or xs i x ≡ next = get_or_default xs i x d within in
          equal-not-less (sym (tied c q x next same here) ∙ sym (λ j. permit_cmp (first j) (second j)) ∙ less)

-- ---- a search, a test and a filter

-- a comparison that ties is of one class and permission
equal-numbers : (a b : ℕ) → nat_cmp a b ≡ Equal → a ≡ b
equal-numbers a b same = ranked a b Equal (sym same)

same-permit : (a p : Permit) → permit_cmp a p ≡ Equal → is_permit p.class p.permission a ≡ true
same-permit a p same = by (nat_cmp a.class p.class) refl same
  where
    by : (o : Ordering) → nat_cmp a.class p.class ≡ o → ordering_then o (nat_cmp a.permission p.permission) ≡ Equal → is_permit p.class p.permission a ≡ true
    by Less is e = absurd (let none : ⊥ = cc in none)
    by Greater is e = absurd (let none : ⊥ = cc in none)
    by Equal is e =
        ap (λ b. b && (a.permission == p.permission)) (eq-eqb a.class p.class (equal-numbers a.class p.class is))
        ∙ eq-eqb a.permission p.permission (equal-numbers a.permission p.permission e)

module _ (xs : List Permit) (ordered : AreInOrder xs) (p : Permit) where
  searchable : IsNonDecreasingBy (λ y. ordering_index (permit_cmp y p)) xs
  searchable = searchable_from_sorted permit-total (λ y. y) xs p (λ k d low high.
      let next : k < k + 1 = omega arith in
      ap is_lt (permit-total.antisymm (get_or xs (k + 1) d) (get_or xs k d) ∙ ap ordering_reverse (Less-from_sorted permit_cmp xs k (k + 1) d ordered next high)))

  -- a binary search finds a permit where the list has it
  pub found : (r : Result ℕ ℕ) → IsSearchInRange r (length xs) → IsBinarySearchResult (λ y. permit_cmp y p) xs r → is_ok r ≡ has_permit xs p.class p.permission
  found (Ok i) within equal = sym (list_any_at (is_permit p.class p.permission) xs i p within (same-permit (get_or xs i p) p (equal p)))
  found (Err i) within parted = sym (false_from_ne_true (has_permit xs p.class p.permission) (λ any. by (Any-from_list_any (is_permit p.class p.permission) xs any)))
    where
      by : (k : ℕ) × (x : Permit) × (k < length xs) × (get_or xs k x ≡ x) × (is_permit p.class p.permission x ≡ true) → ⊥
      by (k, x, low, is, same) =
          let own : permit_cmp (get_or xs k x) p ≡ Equal = ap (λ y. permit_cmp y p) is ∙ tied p.class p.permission x p same (is-itself p) in
          elim (cases_lt k i) [
            | inl below ↦ equal-not-less (sym own ∙ (parted searchable).0 k x (omega arith) below)
            | inr above ↦ greater-not-equal (sym ((parted searchable).1 k x above low) ∙ own)
          ]

-- those of a list that pass a test which asks for the class and the permission
module _ (others : List Permit) (except : Bool) (c q : ℕ) where
  abbrev test : Permit → Bool
  test p = differs (has_permit others p.class p.permission) except

  pub has-those : (xs : List Permit) → has_permit (filter test xs) c q ≡ (has_permit xs c q && differs (has_permit others c q) except)
  has-those [] = refl
  has-those (x ∷ xs) =
      either (test x) ∙ joined (test x) (is_permit c q x) (has_permit (filter test xs) c q) (has_permit xs c q) (differs (has_permit others c q) except) (has-those xs)
      (λ is. let same = and_parts (x.class == c) (x.permission == q) is in λ i. differs (has_permit others (eqb-true x.class c same.0 i) (eqb-true x.permission q same.1 i)) except)
    where
      either : (t : Bool) → has_permit (cond t (x ∷ filter test xs) (filter test xs)) c q ≡ ((t && is_permit c q x) || has_permit (filter test xs) c q)
      either true = refl
      either false = refl

      joined : (t b l h d : Bool) → l ≡ (h && d) → (b ≡ true → t ≡ d) → ((t && b) || l) ≡ ((b || h) && d)
      joined true true l h d is same = same refl
      joined false true l h true is same = absurd (true≢false (sym (same refl)))
      joined false true l h false is same = is ∙ and-false h
      joined true false l h d is same = is
      joined false false l h d is same = is

-- what a test of two lists has told
pub same-permits : (xs ys : List Permit) → pointwise derived.eq-value.it xs ys ≡ true → xs ≡ ys
same-permits [] [] same = refl
same-permits [] (y ∷ ys) same = absurd (true≢false (sym same))
same-permits (x ∷ xs) [] same = absurd (true≢false (sym same))
same-permits (x ∷ xs) (y ∷ ys) same =
    let (here, rest) = and_parts (derived.eq-value.it x y) (pointwise derived.eq-value.it xs ys) same in
    let parts = and_parts (x.class == y.class) (x.permission == y.permission) here in
    let classes = eqb-true x.class y.class parts.0 in
    let permissions = eqb-true x.permission y.permission parts.1 in
    let others = same-permits xs ys rest in
    λ i. (record { class = classes i; permission = permissions i }) ∷ others i
