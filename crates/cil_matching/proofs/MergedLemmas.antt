-- Two lists in one strict order, gone along side by side.
use Rattle.cil_matching.proofs.Common.{◌≡◌, ◌∙◌, ℕ, ◌+◌, ◌<◌, ◌≤◌, inl, inr, List, length, get_or, slice_get, Some, sym, ap, arith, IsStrictlySortedBy, Ordering, Less, Equal, Greater, cases_lt, cases_order, same_Some, slice_get_within, slice_get-get_or, get_or_from_slice_get, AreBefore, IsFoundAt, IsMissedAt}
use Rattle.std.specs.Cmp.{IsTotalOrder}
use Rattle.std.specs.Ordering.{ordering_reverse}
use Rattle.std.proofs.lemmas.Map.Keys.{Less-from_sorted}

never-equal : Less ≡ Equal → ⊥
never-equal e = cc

never-greater : Less ≡ Greater → ⊥
never-greater e = cc

never-both : Equal ≡ Greater → ⊥
never-both e = cc

-- of two at places of a list in order the earlier stands before
pub in-order : {X : Type 0} (R : X → X → Ordering) (xs : List X) (i j : ℕ) (x y : X) → IsStrictlySortedBy R xs → i < j → slice_get xs i ≡ Some x → slice_get xs j ≡ Some y → R x y ≡ Less
in-order R xs i j x y sorted low here there =
    let one = get_or_from_slice_get xs i x x here in
    let two = get_or_from_slice_get xs j y x there in
    (λ k. R (sym one k) (sym two k)) ∙ Less-from_sorted R xs i j x sorted low (slice_get_within xs j y there)

module _ {X : Type 0} (R : X → X → Ordering) (total : IsTotalOrder R) (old new : List X) where
  -- one more
  pub before-more : (i j : ℕ) (x y : X) → slice_get old i ≡ Some x → slice_get new j ≡ Some y → R y x ≡ Less → AreBefore R old new i j → AreBefore R old new i (j + 1)
  before-more i j x y here there less before k x' y' low here' there' = elim (cases_lt k j) [
    | inl earlier ↦ before k x' y' earlier here' there'
    | inr last ↦
        let same : j ≡ k = omega (arith, low, last) in
        let old_one = same_Some x x' (sym here ∙ here') in
        let new_one = same_Some y y' (sym there ∙ ap (slice_get new) same ∙ there') in
        (λ n. R (sym new_one n) (sym old_one n)) ∙ less
  ]

  -- no more than so many
  pub before-all : (i j n : ℕ) → length new ≤ j → AreBefore R old new i j → AreBefore R old new i n
  before-all i j n all before k x y low here there = let within = slice_get_within new k y there in before k x y (omega (arith, all, within)) here there

  -- what stands before one stands before the next
  pub before-next : (i j : ℕ) → IsStrictlySortedBy R old → AreBefore R old new i j → AreBefore R old new (i + 1) j
  before-next i j sorted before k x y low here there =
      let within = slice_get_within old (i + 1) x here in
      let d = get_or old i x in
      let mine : slice_get old i ≡ Some d = slice_get-get_or old i x (omega (arith, within)) in
      total.trans y d x (before k d y low mine there) (in-order R old i (i + 1) d x sorted (omega arith) mine here)

  -- and so does what is alike with the one
  pub before-past : (i j : ℕ) → IsStrictlySortedBy R old → IsFoundAt R old new i j → AreBefore R old new (i + 1) (j + 1)
  before-past i j sorted found k x y low here there = elim (cases_lt k j) [
    | inl earlier ↦ before-next i j sorted found.before k x y earlier here there
    | inr last ↦
        let same : k ≡ j = omega (arith, low, last) in
        let within = slice_get_within old (i + 1) x here in
        let d = get_or old i x in
        let mine : slice_get old i ≡ Some d = slice_get-get_or old i x (omega (arith, within)) in
        let alike = found.alike d y mine (ap (slice_get new) (sym same) ∙ there) in
        total.congr y d x alike ∙ in-order R old i (i + 1) d x sorted (omega arith) mine here
  ]

  -- where the next one doesn't stand before, it is the only one that may be alike
  pub alike-place : (i j k : ℕ) (x y z : X) → IsStrictlySortedBy R new → AreBefore R old new i j → slice_get old i ≡ Some x → slice_get new j ≡ Some y → (R y x ≡ Less → ⊥) → slice_get new k ≡ Some z → R z x ≡ Equal → k ≡ j
  alike-place i j k x y z sorted before here there not_less at alike = elim (cases_order k j) [
    | inl same ↦ same
    | inr (inl earlier) ↦ absurd (never-equal (sym (before k x z earlier here at) ∙ alike))
    | inr (inr later) ↦
        let up = in-order R new j k y z sorted later there at in
        let down : R x y ≡ Greater = sym (total.congr z x y alike) ∙ total.antisymm z y ∙ ap ordering_reverse up in
        absurd (not_less (total.antisymm y x ∙ ap ordering_reverse down))
  ]

  pub found-place : (i j k : ℕ) (x z : X) → IsStrictlySortedBy R new → IsFoundAt R old new i j → slice_get old i ≡ Some x → slice_get new k ≡ Some z → R z x ≡ Equal → k ≡ j
  found-place i j k x z sorted found here at alike =
      let y = get_or new j z in
      let there : slice_get new j ≡ Some y = slice_get-get_or new j z found.within in
      alike-place i j k x y z sorted found.before here there (λ less. never-equal (sym less ∙ found.alike x y here there)) at alike

  pub missed-at : (i j : ℕ) (x y : X) → IsStrictlySortedBy R new → slice_get old i ≡ Some x → slice_get new j ≡ Some y → R y x ≡ Greater → AreBefore R old new i j → IsMissedAt R old new i j
  missed-at i j x y sorted here there more before = record {
    before = before;
    never = λ k x' z here' at alike.
        let old_one = same_Some x' x (sym here' ∙ here) in
        let equal : R z x ≡ Equal = ap (R z) (sym old_one) ∙ alike in
        let place = alike-place i j k x y z sorted before here there (λ less. never-greater (sym less ∙ more)) at equal in
        let same = same_Some z y (sym at ∙ ap (slice_get new) place ∙ there) in
        never-both (sym equal ∙ ap (λ w. R w x) same ∙ more);
  }

  pub missed-all : (i j : ℕ) → length new ≤ j → AreBefore R old new i j → IsMissedAt R old new i (length new)
  missed-all i j all before = record {
    before = before-all i j (length new) all before;
    never = λ k x z here at alike. let within = slice_get_within new k z at in never-equal (sym (before k x z (omega (arith, all, within)) here at) ∙ alike);
  }
