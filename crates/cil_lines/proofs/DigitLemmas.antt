-- The bits of a digit, and which words have a place in it.
use Rattle.cil_lines.proofs.Common.{◌≡◌, ◌≢◌, ℕ, ◌<◌, ◌≤◌, List, [], length, get_or, set, ltb, sym, ap, ◌∙◌, arith, if◌then◌else◌, inl, inr, Result, Ok, Err, OnOk, cases_lt, lt-ltb, le-ltb, get_or-eq_default, get_or-set_same, get_or-set_other, length-set, insert, Entry, Words, bits_in, bits_of, HasPlace, Rises, IsEntry, IsGap}
use Rattle.cil_lines.proofs.EntryLemmas.{bits_in-set_same, bits_in-set_other, bits_in-insert, bits_in-past, has_entry-at, has_entry-insert, no_entry-gap}

-- what follows from a fact follows where there is no error
pub OnOk-map : {T E : Type 0} {P Q : Type 0} (r : Result T E) → (P → Q) → OnOk r P → OnOk r Q
OnOk-map (Ok x) f h = f h
OnOk-map (Err e) f h = tt

pub place-dense : (d : Words) (w : ℕ) → w < length d.dense → HasPlace d w
unfolding HasPlace
place-dense d w within = inl within

module _ (l : List ℕ) (es : List Entry) where
  abbrev digit : Words
  digit = record { dense = l; sparse = es }

  pub dense_is : (w : ℕ) → w < length l → bits_of digit w ≡ get_or l w 0
  unfolding bits_of
  dense_is w within = ap (λ t. if t then get_or l w 0 else bits_in es w) (lt-ltb w (length l) within)

  pub sparse_is : (w : ℕ) → length l ≤ w → bits_of digit w ≡ bits_in es w
  unfolding bits_of
  sparse_is w past = ap (λ t. if t then get_or l w 0 else bits_in es w) (le-ltb w (length l) past)

  pub place-entry : (w i : ℕ) → IsEntry es w i → HasPlace digit w
  unfolding HasPlace
  place-entry w i p = inr (has_entry-at es w i p)

  pub place-none : (w i : ℕ) → length l ≤ w → IsGap es w i → HasPlace digit w → ⊥
  unfolding HasPlace
  place-none w i past p (inl within) = omega arith
  place-none w i past p (inr has) = no_entry-gap es w i p has

  pub place-insert : (w i : ℕ) → i ≤ length es → HasPlace (record { dense = l; sparse = insert es i (record { word = w; bits = 0 }) }) w
  unfolding HasPlace
  place-insert w i within = inr (has_entry-insert es w 0 i within)

  pub bits-insert : (w i : ℕ) → IsGap es w i → (v : ℕ) → bits_of (record { dense = l; sparse = insert es i (record { word = w; bits = 0 }) }) v ≡ bits_of digit v
  unfolding bits_of
  bits-insert w i p v = ap (λ n. if ltb v (length l) then get_or l v 0 else n) (bits_in-insert es w i p v)

  pub bits-dense_here : (w b : ℕ) → w < length l → bits_of (record { dense = set l w b; sparse = es }) w ≡ b
  unfolding bits_of
  bits-dense_here w b within =
      ap (λ n. if ltb w n then get_or (set l w b) w 0 else bits_in es w) (length-set l w b)
      ∙ ap (λ t. if t then get_or (set l w b) w 0 else bits_in es w) (lt-ltb w (length l) within)
      ∙ get_or-set_same l w b 0 within

  pub bits-dense_other : (w b v : ℕ) → v ≢ w → bits_of (record { dense = set l w b; sparse = es }) v ≡ bits_of digit v
  unfolding bits_of
  bits-dense_other w b v other =
      ap (λ n. if ltb v n then get_or (set l w b) v 0 else bits_in es v) (length-set l w b)
      ∙ ap (λ x. if ltb v (length l) then x else bits_in es v) (get_or-set_other l w v b 0 other)

  pub bits-sparse_here : (w b i : ℕ) → length l ≤ w → IsEntry es w i → bits_of (record { dense = l; sparse = set es i (record { word = w; bits = b }) }) w ≡ b
  unfolding bits_of
  bits-sparse_here w b i past p =
      ap (λ t. if t then get_or l w 0 else bits_in (set es i (record { word = w; bits = b })) w) (le-ltb w (length l) past) ∙ bits_in-set_same es w b i p

  pub bits-sparse_other : (w b i v : ℕ) → IsEntry es w i → v ≢ w → bits_of (record { dense = l; sparse = set es i (record { word = w; bits = b }) }) v ≡ bits_of digit v
  unfolding bits_of
  bits-sparse_other w b i v p other = ap (λ n. if ltb v (length l) then get_or l v 0 else n) (bits_in-set_other es w b i v p other)

-- the entries become dense words
pub bits-spread : (l l' l'' : List ℕ) (es : List Entry) (end : ℕ) → length l'' ≡ end → Rises (length l) end es
    → ((w : ℕ) → w < length l → get_or l' w 0 ≡ get_or l w 0)
    → ((w : ℕ) → get_or l'' w 0 ≡ (if ltb w (length l) then get_or l' w 0 else bits_in es w))
    → length l ≤ end → (w : ℕ) → bits_of (record { dense = l''; sparse = [] }) w ≡ bits_of (record { dense = l; sparse = es }) w
bits-spread l l' l'' es end long r kept filled behind w =
    elim (cases_lt w end) [
      | inl within ↦
          dense_is l'' [] w (omega (arith, long)) ∙ filled w
          ∙ elim (cases_lt w (length l)) [
            | inl first ↦ ap (λ t. if t then get_or l' w 0 else bits_in es w) (lt-ltb w (length l) first) ∙ kept w first ∙ sym (dense_is l es w first)
            | inr later ↦ ap (λ t. if t then get_or l' w 0 else bits_in es w) (le-ltb w (length l) later) ∙ sym (sparse_is l es w later)
          ]
      | inr past ↦ sparse_is l'' [] w (omega (arith, long)) ∙ sym (bits_in-past (length l) end es w r past) ∙ sym (sparse_is l es w (omega arith))
    ]

-- dense words alone
pub words_are : (l : List ℕ) (w : ℕ) → bits_of (record { dense = l; sparse = [] }) w ≡ get_or l w 0
words_are l w =
    elim (cases_lt w (length l)) [
      | inl within ↦ dense_is l [] w within
      | inr past ↦ sparse_is l [] w past ∙ sym (get_or-eq_default l 0 past)
    ]

pub no_bits : (w : ℕ) → bits_of (record { dense = []; sparse = [] }) w ≡ 0
no_bits w = sparse_is [] [] w (omega arith)
