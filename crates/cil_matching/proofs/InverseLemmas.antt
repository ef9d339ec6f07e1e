-- Places the other way round.
use Rattle.cil_matching.proofs.Common.{◌≡◌, ◌∙◌, ◌↔◌, ℕ, ◌+◌, ◌<◌, ◌≤◌, inl, inr, List, length, set, get_or, slice_get, Option, None, Some, refl, sym, ap, arith, cases_eq, cases_lt, length-set, none-some, same_Some, slice_get_within, slice_get-get_or, noted, IsInverse}
use Rattle.cil_needs.proofs.ListLemmas.{get-set_same, get-set_other}

pub noted-length : (back : List (Option ℕ)) (place : Option ℕ) (i : ℕ) → length (noted back place i) ≡ length back
noted-length back None i = refl
noted-length back (Some j) i = length-set back j (Some i)

-- one more number
pub inverse-next : (places back : List (Option ℕ)) (place : Option ℕ) (n : ℕ) → slice_get places n ≡ Some place → ((j : ℕ) → place ≡ Some j → j < length back)
    → ((i k j : ℕ) → slice_get places i ≡ Some (Some j) → slice_get places k ≡ Some (Some j) → i ≡ k) → IsInverse n places back → IsInverse (n + 1) places (noted back place n)
inverse-next places back None n here below apart inverse = record {
  to = λ i j at. let (low, there) = inverse.to i j at in (omega (arith, low), there);
  from = λ i j low at. elim (cases_lt i n) [
    | inl before ↦ inverse.from i j before at
    | inr last ↦
        let same : n ≡ i = omega (arith, low, last) in
        absurd (none-some j (same_Some None (Some j) (sym here ∙ ap (slice_get places) same ∙ at)))
  ];
}
inverse-next places back (Some p) n here below apart inverse = record {
  to = λ i j at. elim (cases_eq j p) [
    | inl same ↦
        let last : n ≡ i = same_Some n i (same_Some (Some n) (Some i) (sym stands ∙ ap (slice_get more) (sym same) ∙ at)) in
        (omega (arith, last), ap (slice_get places) (sym last) ∙ here ∙ ap (λ k. Some (Some k)) (sym same))
    | inr other ↦ let (low, there) = inverse.to i j (sym (get-set_other back p j (Some n) other) ∙ at) in (omega (arith, low), there)
  ];
  from = λ i j low at. elim (cases_eq j p) [
    | inl same ↦
        let last : i ≡ n = apart i n j at (here ∙ ap (λ k. Some (Some k)) (sym same)) in
        ap (slice_get more) same ∙ stands ∙ ap (λ k. Some (Some k)) (sym last)
    | inr other ↦ elim (cases_lt i n) [
      | inl before ↦ get-set_other back p j (Some n) other ∙ inverse.from i j before at
      | inr last ↦
          let same : n ≡ i = omega (arith, low, last) in
          let is = same_Some (Some p) (Some j) (sym here ∙ ap (slice_get places) same ∙ at) in
          absurd (other (sym (same_Some p j is)))
    ]
  ];
}
  where
    more : List (Option ℕ)
    more = set back p (Some n)

    stands : slice_get more p ≡ Some (Some n)
    stands = get-set_same back p (get_or back p None) (Some n) (slice_get-get_or back p None (below p refl))

-- the same of all
pub inverse-all : (places back : List (Option ℕ)) (n : ℕ) → length places ≤ n → IsInverse n places back → (i j : ℕ) → (slice_get back j ≡ Some (Some i)) ↔ (slice_get places i ≡ Some (Some j))
inverse-all places back n all inverse i j = (
  λ at. (inverse.to i j at).1,
  λ at. let within = slice_get_within places i (Some j) at in inverse.from i j (omega (arith, all, within)) at,
)
