-- Places that a walk passed over, found by the spots that stand there.
use Rattle.cil_matching.proofs.Common.{◌≡◌, ◌∙◌, ℕ, ◌+◌, inl, inr, false, true≢false, List, [], ◌∷◌, ◌++◌, length, get_or, position, slice_get, Option, None, Some, is_some, refl, sym, ap, arith, list_any, cases_lt, length-append, slice_get_within, slice_get-get_or, get-append, get-last, ArePassed, Spot, same_spot, AreApart}
use Rattle.std.specs.Option.{option_and_then}
use Rattle.cil_bind.proofs.PositionLemmas.{any-position}
use Rattle.cil_needs.proofs.DependentLemmas.{got-push}
use Rattle.cil_matching.proofs.SpotLemmas.{any-stands, found-spot, stands-found}

module _ (spots : List Spot) (found : List (Option ℕ)) where
  -- one more that was found
  pub passed-found : (n i : ℕ) (passed : List ℕ) (known : List Spot) → slice_get found i ≡ Some (Some n) → ArePassed spots found n passed known → ArePassed spots found (n + 1) passed known
  passed-found n i passed known at are = record {
    long = are.long;
    below = λ k j here. let low = are.below k j here in omega (arith, low);
    there = are.there;
    all = λ j low. elim (cases_lt j n) [
      | inl before ↦ are.all j before
      | inr last ↦ let same : n ≡ j = omega (arith, low, last) in inl (i, at ∙ ap (λ m. Some (Some m)) same)
    ];
  }

  pub passed-found-at : (n : ℕ) (place : Option ℕ) (passed : List ℕ) (known : List Spot) → ((i : ℕ) → place ≡ Some i → slice_get found i ≡ Some (Some n)) → (place ≡ None → ⊥)
      → ArePassed spots found n passed known → ArePassed spots found (n + 1) passed known
  passed-found-at n None passed known is some are = absurd (some refl)
  passed-found-at n (Some i) passed known is some are = passed-found n i passed known (is i refl) are

  -- one more that was passed over
  pub passed-more : (n : ℕ) (p : Spot) (passed : List ℕ) (known : List Spot) → slice_get spots n ≡ Some p → ArePassed spots found n passed known
      → ArePassed spots found (n + 1) (passed ++ n ∷ []) (known ++ p ∷ [])
  passed-more n p passed known at are = record {
    long =
        let one = length-append passed (n ∷ []) in
        let two = length-append known (p ∷ []) in
        let long = are.long in
        omega (arith, one, two, long);
    below = λ k j here. elim (got-push passed n k j here) [
      | inl has ↦ let low = are.below k j has in omega (arith, low)
      | inr end ↦ let same = end.1 in omega (arith, same)
    ];
    there = λ k j here. elim (got-push passed n k j here) [
      | inl has ↦
          let within = slice_get_within passed k j has in
          let long = are.long in
          let q = get_or known k p in
          let mine : slice_get known k ≡ Some q = slice_get-get_or known k p (omega (arith, within, long)) in
          get-append known (p ∷ []) k q mine ∙ sym mine ∙ are.there k j has
      | inr end ↦ ap (slice_get (known ++ p ∷ [])) (end.0 ∙ sym are.long) ∙ get-last known p ∙ sym at ∙ ap (slice_get spots) end.1
    ];
    all = λ j low. elim (cases_lt j n) [
      | inl before ↦ elim (are.all j before) [
        | inl has ↦ inl has
        | inr has ↦ inr (has.0, get-append passed (n ∷ []) has.0 j has.1)
      ]
      | inr last ↦ let same : n ≡ j = omega (arith, low, last) in inr (length passed, get-last passed n ∙ ap Some same)
    ];
  }

  module _ (apart : AreApart spots) (n : ℕ) (passed : List ℕ) (known : List Spot) (are : ArePassed spots found n passed known) where
    -- the place of a known spot
    place-of : (p : Spot) (k : ℕ) → position (same_spot p) known ≡ Some k → (j : ℕ) × (slice_get passed k ≡ Some j) × (slice_get spots j ≡ Some p)
    place-of p k is =
        let here = found-spot known p k is in
        let within = slice_get_within known k p here in
        let long = are.long in
        let j = get_or passed k 0 in
        let at : slice_get passed k ≡ Some j = slice_get-get_or passed k 0 (omega (arith, within, long)) in
        (j, at, sym (are.there k j at) ∙ here)

    -- a spot is new behind those
    pub new-known : (p : Spot) → slice_get spots n ≡ Some p → list_any (same_spot p) known ≡ false
    new-known p at = by (position (same_spot p) known) refl
      where
        by : (o : Option ℕ) → position (same_spot p) known ≡ o → list_any (same_spot p) known ≡ false
        by None is = any-position (same_spot p) known ∙ ap is_some is
        by (Some k) is =
            let (j, here, there) = place-of p k is in
            let same = apart j n p there at in
            let low = are.below k j here in
            absurd (omega (arith, same, low))

    -- A spot is found where it wasn't found before.
    pub passed-place : (p : Spot) → length spots ≡ n → ((i j : ℕ) → slice_get found i ≡ Some (Some j) → slice_get spots j ≡ Some p → ⊥)
        → option_and_then (slice_get passed) (position (same_spot p) known) ≡ position (same_spot p) spots
    passed-place p whole never = by (position (same_spot p) known) refl
      where
        none : position (same_spot p) known ≡ None → (o : Option ℕ) → position (same_spot p) spots ≡ o → position (same_spot p) spots ≡ None
        none empty None is = is
        none empty (Some j) is =
            let at = found-spot spots p j is in
            let low = slice_get_within spots j p at in
            elim (are.all j (omega (arith, low, whole))) [
              | inl has ↦ absurd (never has.0 j has.1 at)
              | inr has ↦ absurd (true≢false (sym (any-stands known p has.0 (are.there has.0 j has.1 ∙ at)) ∙ any-position (same_spot p) known ∙ ap is_some empty))
            ]

        by : (o : Option ℕ) → position (same_spot p) known ≡ o → option_and_then (slice_get passed) (position (same_spot p) known) ≡ position (same_spot p) spots
        by None is = ap (option_and_then (slice_get passed)) is ∙ sym (none is (position (same_spot p) spots) refl)
        by (Some k) is =
            let (j, here, there) = place-of p k is in
            ap (option_and_then (slice_get passed)) is ∙ here ∙ sym (stands-found spots p j apart there)
