-- The bits at a settling, word by word.
use Rattle.cil_member_rows.proofs.Common.{◌≡◌, ℕ, ◌+◌, ◌*◌, ◌<◌, ◌≤◌, List, length, refl, sym, ap, subst, ◌∙◌, arith, inl, inr, cases_eq, cases_lt, IsPresence, State, bits_at, words_of, count_now, IsHeld}
use Rattle.cil_recorded.specs.Places.{step_at, IsUntouched}
use Rattle.cil_member_rows.proofs.BitLemmas.{none_behind}
use Rattle.cil_member_rows.proofs.HeldLemmas.{presence_none, presence_same, word_of}

-- the words that no step from one on is of say who is a member now; no row changed its length
pub record IsUpTo (held now : List (List ℕ)) (s : State) (step : ℕ) : Type 0 where
  pub rows : length now ≡ length held
  pub words : (r : ℕ) → words_of now r ≡ words_of held r
  pub done : (r w : ℕ) → IsUntouched s step r w → IsPresence (count_now s r) w (bits_at now r w)

module _ (held : List (List ℕ)) (s : State) (is : IsHeld held s) where
  -- a word that isn't there has no member
  pub none_there : (r w : ℕ) → words_of held r ≤ w → IsPresence (count_now s r) w 0
  none_there r w past = presence_none (count_now s r) w (λ b within. is.room r (64 * w + b) (let place = word_of w b within in omega (arith, place, past)))

  module _ (now now' : List (List ℕ)) (step line word present : ℕ) (was : IsUpTo held now s step) (at_line : line ≡ (step_at s step).line) (at_word : word ≡ (step_at s step).word) where
    pub up_to-more : IsPresence (count_now s line) word present → length now' ≡ length now → ((r : ℕ) → words_of now' r ≡ words_of now r)
        → (word < words_of now line → bits_at now' line word ≡ present) → ((r w : ℕ) → (r ≡ line → w ≡ word → ⊥) → bits_at now' r w ≡ bits_at now r w)
        → IsUpTo held now' s (step + 1)
    up_to-more presence len words here others =
        record {
          rows = len ∙ was.rows;
          words = λ r. words r ∙ was.words r;
          done = done;
        }
      where
        at : IsPresence (count_now s line) word (bits_at now' line word)
        at =
            elim (cases_lt word (words_of now line)) [
              | inl within ↦ presence_same (count_now s line) (count_now s line) word present (bits_at now' line word) presence (here within) (λ b _. refl)
              | inr past ↦
                  let old = was.words line in
                  let new = words line in
                  presence_same (count_now s line) (count_now s line) word 0 (bits_at now' line word) (none_there line word (omega (arith, old, past)))
                  (none_behind now' line word (omega (arith, new, past))) (λ b _. refl)
            ]

        kept : (r w : ℕ) → IsUntouched s (step + 1) r w → (r ≡ line → w ≡ word → ⊥) → IsPresence (count_now s r) w (bits_at now' r w)
        kept r w none not =
            let from : IsUntouched s step r w =
            λ k on within in_line in_word.
            elim (cases_eq k step) [
              | inl same ↦ not (sym in_line ∙ ap (λ j. (step_at s j).line) same ∙ sym at_line) (sym in_word ∙ ap (λ j. (step_at s j).word) same ∙ sym at_word)
              | inr later ↦ none k (omega (arith, on, later)) within in_line in_word
            ]
            in
            presence_same (count_now s r) (count_now s r) w (bits_at now r w) (bits_at now' r w) (was.done r w from) (others r w not) (λ b _. refl)

        done : (r w : ℕ) → IsUntouched s (step + 1) r w → IsPresence (count_now s r) w (bits_at now' r w)
        done r w none =
            elim (cases_eq r line) [
              | inl same ↦
                  elim (cases_eq w word) [
                    | inl here ↦ subst (λ k. IsPresence (count_now s k) w (bits_at now' k w)) (sym same) (subst (λ k. IsPresence (count_now s line) k (bits_at now' line k)) (sym here) at)
                    | inr other ↦ kept r w none (λ _ e. other e)
                  ]
              | inr other ↦ kept r w none (λ e _. other e)
            ]
