-- What a search by words finds among entries.
use Rattle.cil_lines.proofs.Common.{◌≡◌, ◌≢◌, ℕ, ◌-◌, ◌<◌, ◌≤◌, List, length, get_or, ltb, max, true, false, ap, ◌∙◌, arith, inl, inr, cases_eq, ltb-true, ltb-false, get_or_default, Entry, bits_in, Rises, IsEntry, IsGap, IsLast}
use Rattle.std.specs.List.Sorted.{IsPartitionPoint, IsNonDecreasingBy}
use Rattle.cil_lines.proofs.EntryLemmas.{Rises-strictly, Rises-last, bits_in-gap}

-- the point where words are no longer below one
abbrev pub IsSplit : List Entry → ℕ → ℕ → Type 0
IsSplit es w i = IsPartitionPoint (λ (e : Entry). ltb e.word w ≡ true) (λ (e : Entry). ltb e.word w ≡ false) es i

pub rises-non_decreasing : (n m : ℕ) (es : List Entry) → Rises n m es → IsNonDecreasingBy (λ (e : Entry). e.word) es
rises-non_decreasing n m es r i j d le within =
    elim (cases_eq i j) [
      | inl e ↦ let same = ap (λ k. (get_or es k d).word) e in omega (arith, same)
      | inr other ↦ let lower = Rises-strictly n m es r i j d (omega (arith, other)) within in omega (arith, lower)
    ]

pub entry-found : (es : List Entry) (w i : ℕ) (e : Entry) → IsSplit es w i → i < length es → (get_or es i e).word ≡ w → IsEntry es w i
entry-found es w i e split within here = record {
  within = within;
  at = λ d. ap (λ (x : Entry). x.word) (get_or_default es i d e within) ∙ here;
  below = λ k d before. ltb-true (get_or es k d).word w (split.0 k d (omega arith) before);
}

pub gap-found : (n m : ℕ) (es : List Entry) (w i : ℕ) (e : Entry) → Rises n m es → IsSplit es w i → i ≤ length es → (i < length es → (get_or es i e).word ≢ w) → IsGap es w i
gap-found n m es w i e r split within other = record {
  within = within;
  below = λ k d before. ltb-true (get_or es k d).word w (split.0 k d (omega arith) before);
  above = λ k d from upto.
      let le = ltb-false (get_or es i d).word w (split.1 i d (omega arith) (omega arith)) in
      let differs = other (omega arith) in
      let same = ap (λ (x : Entry). x.word) (get_or_default es i d e (omega arith)) in
      let first : w < (get_or es i d).word = omega (arith, le, same, differs) in
      elim (cases_eq i k) [
        | inl q ↦ let there = ap (λ j. (get_or es j d).word) q in omega (arith, first, there)
        | inr n ↦ let lower = Rises-strictly _ _ es r i k d (omega (arith, n)) upto in omega (arith, first, lower)
      ];
}

-- the words before a place are below one, and those from it on aren't
abbrev pub IsFrom : List Entry → ℕ → ℕ → Type 0
IsFrom es w i = ((k : ℕ) (d : Entry) → k < i → (get_or es k d).word < w) × ((k : ℕ) (d : Entry) → i ≤ k → k < length es → w ≤ (get_or es k d).word)

pub from-entry : (n m : ℕ) (es : List Entry) (w i : ℕ) → Rises n m es → IsEntry es w i → IsFrom es w i
from-entry n m es w i r p = (
  p.below,
  λ k d from upto.
      let here = p.at d in
      elim (cases_eq i k) [
        | inl q ↦ let there = ap (λ j. (get_or es j d).word) q in omega (arith, here, there)
        | inr other ↦ let lower = Rises-strictly n m es r i k d (omega (arith, other)) upto in omega (arith, here, lower)
      ],
)

pub from-gap : (es : List Entry) (w i : ℕ) → IsGap es w i → IsFrom es w i
from-gap es w i p = (p.below, λ k d from upto. let higher = p.above k d from upto in omega (arith, higher))

-- no word from one on has a bit before the next that has an entry
pub none_before : (n m : ℕ) (es : List Entry) (from i : ℕ) (d : Entry) → Rises n m es → IsFrom es from i → i < length es → (w : ℕ) → from ≤ w → w < (get_or es i d).word → bits_in es w ≡ 0
none_before n m es from i d r p within w on before = bits_in-gap es w i (record {
  within = omega arith;
  below = λ k d less. let lower = p.0 k d less in omega (arith, lower);
  above = λ k e upto inside.
      let same = ap (λ (x : Entry). x.word) (get_or_default es i e d within) in
      elim (cases_eq i k) [
        | inl q ↦ let there = ap (λ j. (get_or es j e).word) q in omega (arith, there, same)
        | inr other ↦ let lower = Rises-strictly n m es r i k e (omega (arith, other)) inside in omega (arith, lower, same)
      ];
})

-- nor where no entry comes
pub none_behind : (es : List Entry) (from i : ℕ) → IsFrom es from i → length es ≤ i → (w : ℕ) → from ≤ w → bits_in es w ≡ 0
none_behind es from i p past w on = bits_in-gap es w (length es) (record {
  within = omega arith;
  below = λ k d less. let lower = p.0 k d (omega arith) in omega (arith, lower);
  above = λ k d upto inside. absurd (omega arith);
})

pub last-entry : (n m : ℕ) (es : List Entry) (w last : ℕ) (d : Entry) → Rises n m es → 0 < length es → last ≡ max (get_or es (length es - 1) d).word w → IsLast es w last
last-entry n m es w last d r some is = record {
  all = λ k e upto.
      let le = Rises-last n m es r k e upto in
      let same = ap (λ (x : Entry). x.word) (get_or_default es (length es - 1) e d (omega arith)) in
      omega (arith, le, same, is);
  this = omega (arith, is);
  below = λ k less all. let lower = all (length es - 1) d (omega arith) in omega (arith, lower, is);
}
