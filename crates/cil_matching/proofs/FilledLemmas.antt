-- Places that a walk found, and those that are filled in behind it.
use Rattle.cil_matching.proofs.Common.{◌≡◌, ◌∙◌, true, true≢false, is_some, refl, ℕ, ◌+◌, ◌<◌, ◌≤◌, inl, inr, List, length, map, set, slice_get, Option, None, Some, sym, ap, subst, arith, cases_eq, length-set, none-some, same_Some, AreSameAt, ArePlaces, AreRight, Spot, AreApart}
use Rattle.cil_needs.proofs.ListLemmas.{get-set_same, get-set_other}
use Rattle.cil_matching.proofs.MatchedLemmas.{spot-here, spot-there, to-mapped}

pub some-from : (o : Option ℕ) → is_some o ≡ true → (k : ℕ) × (o ≡ Some k)
some-from None is = absurd (true≢false (sym is))
some-from (Some k) is = (k, refl)

-- So many places are filled in where the first ones had none.
pub record AreFilled {S : Type 0} (IsSame : S → S → Type 0) (old new : List S) (count : ℕ) (first places : List (Option ℕ)) : Type 0 where
  pub are : AreRight IsSame old new (length old) places
  pub kept : (i j : ℕ) → slice_get first i ≡ Some (Some j) → slice_get places i ≡ Some (Some j)
  pub filled : (i j : ℕ) → i < count → AreSameAt IsSame old new i j → slice_get places i ≡ Some (Some j)

module _ {S : Type 0} (IsSame : S → S → Type 0) (old new : List S) where
  pub filled-all : (count : ℕ) (first places : List (Option ℕ)) → length old ≤ count → AreFilled IsSame old new count first places → ArePlaces IsSame old new (length old) places
  filled-all count first places all filled = record {
    long = filled.are.long;
    exact = λ i j low. (filled.are.right i j, λ same. filled.filled i j (omega (arith, low, all)) same);
  }

  -- one that had none
  pub filled-set : (n : ℕ) (first places : List (Option ℕ)) (place : Option ℕ) → slice_get places n ≡ Some None
      → ((j : ℕ) → place ≡ Some j → AreSameAt IsSame old new n j) → ((j : ℕ) → AreSameAt IsSame old new n j → place ≡ Some j)
      → AreFilled IsSame old new n first places → AreFilled IsSame old new (n + 1) first (set places n place)
  filled-set n first places place lacks right certain before = record {
    are = record {
      long = length-set places n place ∙ before.are.long;
      right = λ i j at. elim (cases_eq i n) [
        | inl same ↦ subst (λ k. AreSameAt IsSame old new k j) (sym same) (right j (same_Some place (Some j) (sym stands ∙ ap (slice_get (set places n place)) (sym same) ∙ at)))
        | inr other ↦ before.are.right i j (sym (get-set_other places n i place other) ∙ at)
      ];
    };
    kept = λ i j at. elim (cases_eq i n) [
      | inl same ↦ absurd (none-some j (same_Some None (Some j) (sym lacks ∙ ap (slice_get places) (sym same) ∙ before.kept i j at)))
      | inr other ↦ get-set_other places n i place other ∙ before.kept i j at
    ];
    filled = λ i j low same. elim (cases_eq i n) [
      | inl here ↦ ap (slice_get (set places n place)) here ∙ stands ∙ ap Some (certain j (subst (λ k. AreSameAt IsSame old new k j) here same))
      | inr other ↦ get-set_other places n i place other ∙ before.filled i j (omega (arith, low, other)) same
    ];
  }
    where
      stands : slice_get (set places n place) n ≡ Some place
      stands = get-set_same places n None place lacks

  module _ (spot : S → Spot) (agree : (s t : S) → IsSame s t → spot s ≡ spot t) where
    -- a statement is the same as one at most
    one-place : AreApart (map spot new) → (i k j : ℕ) → AreSameAt IsSame old new i k → AreSameAt IsSame old new i j → k ≡ j
    one-place apart i k j one two =
        let at = to-mapped spot old i one.statement one.here in
        apart k j (spot one.statement) (spot-there IsSame old new spot agree i k (spot one.statement) at one) (spot-there IsSame old new spot agree i j (spot one.statement) at two)

    -- where the first so many have one
    pub filled-first : (count : ℕ) (first : List (Option ℕ)) → AreApart (map spot new) → AreRight IsSame old new (length old) first
        → ((i : ℕ) → i < count → (k : ℕ) × (slice_get first i ≡ Some (Some k))) → AreFilled IsSame old new count first first
    filled-first count first apart are has = record {
      are = are;
      kept = λ i j at. at;
      filled = λ i j low same.
          let (k, at) = has i low in
          at ∙ ap (λ m. Some (Some m)) (one-place apart i k j (are.right i k at) same);
    }

    -- one that has one
    pub filled-kept : (n k : ℕ) (first places : List (Option ℕ)) → AreApart (map spot new) → slice_get places n ≡ Some (Some k)
        → AreFilled IsSame old new n first places → AreFilled IsSame old new (n + 1) first places
    filled-kept n k first places apart has before = record {
      are = before.are;
      kept = before.kept;
      filled = λ i j low same. elim (cases_eq i n) [
        | inl here ↦
            let two = subst (λ m. AreSameAt IsSame old new m j) here same in
            ap (slice_get places) here ∙ has ∙ ap (λ m. Some (Some m)) (one-place apart n k j (before.are.right n k has) two)
        | inr other ↦ before.filled i j (omega (arith, low, other)) same
      ];
    }

    -- What was found stands at no spot of one that is open.
    pub open-apart : (n : ℕ) (first places : List (Option ℕ)) (count : ℕ) (p : Spot) → AreApart (map spot old) → AreRight IsSame old new count first → slice_get places n ≡ Some None
        → ((i j : ℕ) → slice_get first i ≡ Some (Some j) → slice_get places i ≡ Some (Some j)) → slice_get (map spot old) n ≡ Some p
        → (i j : ℕ) → slice_get first i ≡ Some (Some j) → slice_get (map spot new) j ≡ Some p → ⊥
    open-apart n first places count p apart are lacks kept at i j found there =
        let place = apart i n p (spot-here IsSame old new spot agree i j p there (are.right i j found)) at in
        none-some j (same_Some None (Some j) (sym lacks ∙ ap (slice_get places) (sym place) ∙ kept i j found))
