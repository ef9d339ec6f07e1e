-- The kept types by symbols, type by type.
use Rattle.cil_member_updates.proofs.Common.{◌≡◌, ◌≢◌, ◌+◌, ◌*◌, ◌/◌, ◌%◌, ◌^◌, ◌<◌, ◌≤◌, ◌||◌, ℕ, zero, suc, Bool, true, false, List, [], length, take, replicate, set, Option, None, Some, bytes_eq, bit_or, get_or, slice_get, refl, sym, ap, ◌∙◌, subst, inl, inr, arith, w64, get_or-set_same, get_or-set_other, list_any, IsDistinct, bit_at, or-true, or-false, cases_eq, take_all, bit_at_set_same, bit_at_set_other, bit_at-zero, same_Some, slice_get-get_or, bytes_eq-Decides, Declared, Meaning, one_if, AreBits, of_name, keeps}
use Rattle.std.proofs.lemmas.List.Folds.{list_any_more}
use Rattle.cil_member_updates.proofs.NameLemmas.{same-symbol, bytes-refl}

-- whether the type of a symbol is among some
abbrev pub is_among : List (List ℕ) → List Declared → ℕ → Bool
is_among symbols types t = of_name (λ name. list_any (λ d. bytes_eq name d.name) types) (slice_get symbols t)

abbrev pub AreAmong : List (List ℕ) → List Declared → List ℕ → Type 0
AreAmong symbols types words = (w : ℕ) → AreBits (is_among symbols types) w (get_or words w 0)

-- words of nothing
pub zero-in : (n i : ℕ) → ◌≡◌ {A = ℕ} (get_or (replicate n 0) i 0) 0
zero-in zero i = refl
zero-in (suc n) zero = refl
zero-in (suc n) (suc i) = zero-in n i

pub among-none : (symbols : List (List ℕ)) (n : ℕ) (words : List ℕ) → words ≡ replicate n 0 → AreAmong symbols [] words
among-none symbols n words is w b within =
    ap (λ l. bit_at (get_or l w 0) b) is ∙ ap (λ x. bit_at x b) (zero-in n w) ∙ bit_at-zero b ∙ sym (ap one_if (none (slice_get symbols (64 * w + b))))
  where
    none : (name : Option (List ℕ)) → of_name (λ name. false) name ≡ false
    none None = refl
    none (Some n) = refl

module _ (symbols : List (List ℕ)) (distinct : IsDistinct bytes_eq symbols) (types : List Declared) (i : ℕ) (d : Declared) (i_within : i < length types) (symbol : ℕ) (at : slice_get symbols symbol ≡ Some (get_or types i d).name) where
  among-same : is_among symbols (take (i + 1) types) symbol ≡ true
  among-same =
      ap (of_name (λ name. list_any (λ d. bytes_eq name d.name) (take (i + 1) types))) at
      ∙ list_any_more (λ x. bytes_eq (get_or types i d).name x.name) types i d i_within
      ∙ ap (λ b. list_any (λ x. bytes_eq (get_or types i d).name x.name) (take i types) || b) (bytes-refl (get_or types i d).name)
      ∙ or-true (list_any (λ x. bytes_eq (get_or types i d).name x.name) (take i types))

  among-other : (t : ℕ) → t ≢ symbol → is_among symbols (take (i + 1) types) t ≡ is_among symbols (take i types) t
  among-other t apart = by (slice_get symbols t) refl
    where
      unlike : (name : List ℕ) → slice_get symbols t ≡ Some name → (b : Bool) → bytes_eq name (get_or types i d).name ≡ b → b ≡ false
      unlike name is true e = absurd (apart (same-symbol symbols distinct t symbol (get_or types i d).name (is ∙ ap Some ((bytes_eq-Decides name (get_or types i d).name).0 e)) at))
      unlike name is false e = refl

      by : (name : Option (List ℕ)) → slice_get symbols t ≡ name → of_name (λ name. list_any (λ d. bytes_eq name d.name) (take (i + 1) types)) name ≡ of_name (λ name. list_any (λ d. bytes_eq name d.name) (take i types)) name
      by None is = refl
      by (Some name) is =
          list_any_more (λ x. bytes_eq name x.name) types i d i_within
          ∙ ap (λ b. list_any (λ x. bytes_eq name x.name) (take i types) || b) (unlike name is (bytes_eq name (get_or types i d).name) refl)
          ∙ or-false (list_any (λ x. bytes_eq name x.name) (take i types))

  -- one more type
  among-more : (words : List ℕ) → symbol / 64 < length words → AreAmong symbols (take i types) words → AreAmong symbols (take (i + 1) types) (set words (symbol / 64) (bit_or (get_or words (symbol / 64) 0) (1 * 2 ^ (symbol % 64) % 2 ^ 64)))
  among-more words within are w b b_within =
      elim (cases_eq w (symbol / 64)) [
        | inl same ↦
            ap (λ x. bit_at x b) (ap (λ k. get_or (set words (symbol / 64) more) k 0) same ∙ get_or-set_same words (symbol / 64) more 0 within) ∙ here b b_within
            ∙ ap (λ k. one_if (is_among symbols (take (i + 1) types) (64 * k + b))) (sym same)
        | inr other ↦
            ap (λ x. bit_at x b) (get_or-set_other words (symbol / 64) w more 0 other) ∙ are w b b_within
            ∙ sym (ap one_if (among-other (64 * w + b) (λ e. other (omega (arith, e, b_within)))))
      ]
    where
      more : ℕ
      more = bit_or (get_or words (symbol / 64) 0) (1 * 2 ^ (symbol % 64) % 2 ^ 64)

      here : (b : ℕ) → b < 64 → bit_at more b ≡ one_if (is_among symbols (take (i + 1) types) (64 * (symbol / 64) + b))
      here b b_within =
          elim (cases_eq b (symbol % 64)) [
            | inl same ↦
                ap (bit_at more) same ∙ bit_at_set_same w64 (get_or words (symbol / 64) 0) (symbol % 64) (omega arith)
                ∙ sym (ap one_if (ap (is_among symbols (take (i + 1) types)) (omega (arith, same)) ∙ among-same))
            | inr other ↦
                bit_at_set_other w64 (get_or words (symbol / 64) 0) (symbol % 64) (omega arith) b other ∙ are (symbol / 64) b b_within
                ∙ sym (ap one_if (among-other (64 * (symbol / 64) + b) (λ e. other (omega (arith, e, b_within)))))
          ]

  -- by the bits that were read
  pub among-next : (words : List ℕ) (bits : ℕ) → bits ≡ get_or words (symbol / 64) bits → symbol / 64 < length words → AreAmong symbols (take i types) words
      → AreAmong symbols (take (i + 1) types) (set words (symbol / 64) (bit_or bits (1 * 2 ^ (symbol % 64) % 2 ^ 64)))
  among-next words bits is within are =
      let same : bits ≡ get_or words (symbol / 64) 0 =
      is ∙ same_Some (get_or words (symbol / 64) bits) (get_or words (symbol / 64) 0) (sym (slice_get-get_or words (symbol / 64) bits within) ∙ slice_get-get_or words (symbol / 64) 0 within) in
      subst (λ low. AreAmong symbols (take (i + 1) types) (set words (symbol / 64) (bit_or low (1 * 2 ^ (symbol % 64) % 2 ^ 64)))) (sym same) (among-more words within are)

-- behind the last type
pub among-all : (symbols : List (List ℕ)) (meaning : Meaning) (i : ℕ) (words : List ℕ) → length meaning.types ≤ i → AreAmong symbols (take i meaning.types) words → (w : ℕ) → AreBits (keeps symbols meaning) w (get_or words w 0)
unfolding keeps
among-all symbols meaning i words all are w b within = are w b within ∙ ap (λ types. one_if (is_among symbols types (64 * w + b))) (take_all i meaning.types all)
