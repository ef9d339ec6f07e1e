-- Places of words without bits, which are given up.
use Rattle.cil_lines.proofs.Common.{zero, suc, ◌≡◌, ◌≢◌, ℕ, ◌+◌, ◌-◌, ◌<◌, ◌≤◌, ◌==◌, ltb, min, List, [], ◌∷◌, length, get_or, take, refl, sym, ap, ◌∙◌, arith, if◌then◌else◌, inl, inr, cases_eq, cases_lt, get_or-take, length-take-le, bit_at-zero, same_from_bits, bit_at, remove, Entry, Words, bits_in, bits_of, Rises, HasEntry, HasPlace, IsEntry, limit, limit_of, AreBelow, value}
use Rattle.cil_lines.proofs.DigitLemmas.{dense_is, sparse_is}
use Rattle.cil_lines.proofs.EntryLemmas.{bits-there, Rises-from}
use Rattle.cil_lines.proofs.PlaceLemmas.{limit-more, limit-some}

-- ---- entries

behind : (e : Entry) (es : List Entry) (w i : ℕ) → IsEntry (e ∷ es) w (suc i) → IsEntry es w i
behind e es w i p =
    let within = p.within in
    record { within = omega arith; at = p.at; below = λ k d before. p.below (suc k) d (omega arith) }

bits_in-before : (n m : ℕ) (es : List Entry) (v : ℕ) → Rises n m es → v < n → bits_in es v ≡ 0
bits_in-before n m [] v r before = refl
bits_in-before n m (e ∷ es) v r before =
    let from = r.0 in
    bits-there e es v (λ q. omega (arith, q, from, before)) ∙ bits_in-before (e.word + 1) m es v r.2 (omega (arith, from, before))

pub bits_in-remove : (n m : ℕ) (es : List Entry) (w i : ℕ) → Rises n m es → IsEntry es w i → bits_in es w ≡ 0 → (v : ℕ) → bits_in (remove es i) v ≡ bits_in es v
bits_in-remove n m [] w i r p none v = let within = p.within in absurd (omega arith)
bits_in-remove n m (e ∷ es) w zero r p none v =
    elim (cases_eq e.word v) [
      | inl q ↦
          bits_in-before (e.word + 1) m es v r.2 (omega (arith, q)) ∙ sym (ap (bits_in (e ∷ es)) (sym q ∙ p.at e) ∙ none)
      | inr other ↦ sym (bits-there e es v other)
    ]
bits_in-remove n m (e ∷ es) w (suc i) r p none v =
    let less = p.below 0 e (omega arith) in
    ap (λ k. if e.word == v then e.bits else k) (bits_in-remove (e.word + 1) m es w i r.2 (behind e es w i p) (sym (bits-there e es w (λ q. omega (arith, q, less))) ∙ none) v)

pub Rises-remove : (n m : ℕ) (es : List Entry) (i : ℕ) → i < length es → Rises n m es → Rises n m (remove es i)
Rises-remove n m [] i within r = absurd (omega arith)
Rises-remove n m (e ∷ es) zero within r = let from = r.0 in Rises-from (e.word + 1) m n es (omega (arith, from)) r.2
Rises-remove n m (e ∷ es) (suc i) within r = (r.0, r.1, Rises-remove (e.word + 1) m es i (omega arith) r.2)

has_entry-remove : (es : List Entry) (w i v : ℕ) → IsEntry es w i → v ≢ w → HasEntry es v → HasEntry (remove es i) v
has_entry-remove [] w i v p other h = absurd h
has_entry-remove (e ∷ es) w zero v p other (inl q) = absurd (other (sym q ∙ p.at e))
has_entry-remove (e ∷ es) w zero v p other (inr h) = h
has_entry-remove (e ∷ es) w (suc i) v p other (inl q) = inl q
has_entry-remove (e ∷ es) w (suc i) v p other (inr h) = inr (has_entry-remove es w i v (behind e es w i p) other h)

-- ---- digits

module _ (l : List ℕ) (es : List Entry) where
  abbrev digit : Words
  digit = record { dense = l; sparse = es }

  pub kept-remove : (w i v : ℕ) → IsEntry es w i → v ≢ w → HasPlace digit v → HasPlace (record { dense = l; sparse = remove es i }) v
  unfolding HasPlace
  kept-remove w i v p other (inl within) = inl within
  kept-remove w i v p other (inr h) = inr (has_entry-remove es w i v p other h)

  pub bits-remove : (m w i : ℕ) → length l ≤ w → Rises (length l) m es → IsEntry es w i → bits_of digit w ≡ 0 → (v : ℕ) → bits_of (record { dense = l; sparse = remove es i }) v ≡ bits_of digit v
  unfolding bits_of
  bits-remove m w i past r p none v =
      ap (λ k. if ltb v (length l) then get_or l v 0 else k) (bits_in-remove (length l) m es w i r p (sym (sparse_is l es w past) ∙ none) v)

  pub kept-pop : (n w v : ℕ) → n ≡ w → w + 1 ≡ length l → v ≢ w → HasPlace digit v → HasPlace (record { dense = take n l; sparse = es }) v
  unfolding HasPlace
  kept-pop n w v is last other (inl within) = inl (omega (arith, length-take-le n l (omega arith), within, last, other))
  kept-pop n w v is last other (inr h) = inr h

  pub bits-pop : (m n w : ℕ) → n ≡ w → w + 1 ≡ length l → Rises (length l) m es → bits_of digit w ≡ 0 → (v : ℕ) → bits_of (record { dense = take n l; sparse = es }) v ≡ bits_of digit v
  bits-pop m n w is last r none v =
      let short : length (take n l) ≡ n = length-take-le n l (omega arith) in
      elim (cases_lt v w) [
        | inl before ↦
            dense_is (take n l) es v (omega (arith, short, before, last)) ∙ get_or-take n l v 0 (omega (arith, before, last)) ∙ sym (dense_is l es v (omega (arith, before, last)))
        | inr from ↦
            elim (cases_eq v w) [
              | inl here ↦
                  sparse_is (take n l) es v (omega (arith, short, from, last)) ∙ bits_in-before (length l) m es v r (omega (arith, here, last)) ∙ sym (ap (bits_of digit) here ∙ none)
              | inr apart ↦
                  sparse_is (take n l) es v (omega (arith, short, from, last)) ∙ sym (sparse_is l es v (omega (arith, from, apart, last)))
            ]
      ]

-- ---- lines

-- a word whose counters are 0 has no bits
pub no_bits_in : (ds : List Words) (i w : ℕ) (d : Words) → i < length ds → ((b : ℕ) → value ds w b ≡ 0) → bits_of (get_or ds i d) w ≡ 0
no_bits_in [] i w d within none = absurd (omega arith)
no_bits_in (x ∷ ds) zero w d within none = same_from_bits (bits_of x w) 0 (λ b. omega (arith, none b, bit_at-zero b))
no_bits_in (x ∷ ds) (suc i) w d within none = no_bits_in ds i w d (omega arith) (λ b. omega (arith, none b))

pub none_from_present : (ds : List Words) (w present : ℕ) → ((b : ℕ) → bit_at present b ≡ min 1 (value ds w b)) → present ≡ 0 → (b : ℕ) → value ds w b ≡ 0
none_from_present ds w present is none b = omega (arith, is b, ap (λ n. bit_at n b) none, bit_at-zero b)

-- counters stay below their limits
pub below_given_up : (d d' : Words) (h h' : List Words) (word : ℕ) → bits_of d word ≡ 0 → ((b : ℕ) → value h word b ≡ 0) → ((w : ℕ) → bits_of d' w ≡ bits_of d w)
    → ((w b : ℕ) → value h' w b ≡ value h w b) → ((w : ℕ) → w ≢ word → HasPlace d w → HasPlace d' w) → ((w : ℕ) → w ≢ word → limit h w ≤ limit h' w)
    → AreBelow (record { lowest = d; higher = h }) → AreBelow (record { lowest = d'; higher = h' })
unfolding AreBelow limit_of
below_given_up d d' h h' word none nones bits values kept limits below w b =
    let bit = ap (λ n. bit_at n b) (bits w) in
    elim (cases_eq w word) [
      | inl here ↦
          omega (arith, bit, ap (λ n. bit_at n b) (ap (bits_of d) here ∙ none), bit_at-zero b, values w b, ap (λ v. value h v b) here, nones b, limit-some (d' ∷ h') w)
      | inr apart ↦ omega (arith, bit, values w b, below w b, limit-more d d' h h' w (kept w apart) (limits w apart))
    ]
