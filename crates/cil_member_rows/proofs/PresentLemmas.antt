-- The words of a row that say who is a member now, put one by one.
use Rattle.cil_member_rows.proofs.Common.{◌≡◌, ◌⊎◌, ℕ, ◌+◌, ◌*◌, ◌/◌, ◌<◌, ◌≤◌, List, length, min, refl, sym, subst, ◌∙◌, arith, inl, inr, cases_lt, IsPresence, State, bits_at, words_of, count_before, count_now, IsHeld}
use Rattle.cil_member_rows.specs.Words.{IsOutside}
use Rattle.cil_member_rows.specs.declared.words.Words.{Words}
use Rattle.cil_member_rows.proofs.HeldLemmas.{presence_same, word_of}
use Rattle.cil_member_rows.proofs.HoldLemmas.{none_there}
use Rattle.std.proofs.Math.ListN.{get_or-eq_default}
use Rattle.std.specs.Prelude.{slice_index}

-- the words from the first one on, as far as one, say who is a member now, and the others are as before
pub record ArePut (counts : ℕ → ℕ) (first : ℕ) (old words : List ℕ) (word : ℕ) : Type 0 where
  pub len : length words ≡ length old
  pub put : (w : ℕ) → first ≤ w → w < word → w < length old → IsPresence counts w (slice_index words w)
  pub others : (w : ℕ) → (w < first) ⊎ (word ≤ w) → slice_index words w ≡ slice_index old w

module _ (held : List (List ℕ)) (s : State) (is : IsHeld held s) (row : ℕ) (some : Words) (same : (t : ℕ) → IsOutside some (t / 64) → count_before s row t ≡ count_now s row t) where
  -- a word outside says who is a member now as well
  still : (w mask : ℕ) → IsOutside some w → mask ≡ bits_at held row w → IsPresence (count_now s row) w mask
  still w mask out bits =
      presence_same (count_before s row) (count_now s row) w (bits_at held row w) mask (is.was row w) bits
      (λ b within. sym (same (64 * w + b) (subst (λ k. IsOutside some k) (sym (word_of w b within)) out)))

  -- the first words, of which the others are put
  pub put-all : (count : ℕ) (old words : List ℕ) → length old ≡ min (words_of held row) count → ((w : ℕ) → w < count → slice_index old w ≡ bits_at held row w)
      → length words ≡ length old
      → ((w : ℕ) → some.first ≤ w → w < some.end → w < length old → IsPresence (count_now s row) w (slice_index words w))
      → ((w : ℕ) → IsOutside some w → slice_index words w ≡ slice_index old w)
      → (w : ℕ) → w < count → IsPresence (count_now s row) w (slice_index words w)
  put-all count old words long bits len put others w upto =
      elim (cases_lt w (length old)) [
        | inl within ↦
            elim (cases_lt w some.first) [
              | inl low ↦ still w (slice_index words w) (inl low) (others w (inl low) ∙ bits w upto)
              | inr from ↦
                  elim (cases_lt w some.end) [
                    | inl before ↦ put w from before within
                    | inr past ↦ still w (slice_index words w) (inr past) (others w (inr past) ∙ bits w upto)
                  ]
            ]
        | inr past ↦
            presence_same (count_now s row) (count_now s row) w 0 (slice_index words w) (none_there held s is row w (omega (arith, long, past, upto)))
            (get_or-eq_default words 0 (omega (arith, len, past))) (λ b _. refl)
      ]
