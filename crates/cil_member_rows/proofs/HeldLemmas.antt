-- The bits of who was a member, when counters move.
use Rattle.cil_member_rows.proofs.Common.{◌≡◌, ◌≢◌, ℕ, ◌+◌, ◌*◌, ◌/◌, ◌<◌, ◌≤◌, List, length, min, sym, ap, ◌∙◌, arith, inl, inr, cases_eq, bit_at, IsPresence, hit_at, State, hit_off, hit_out, bits_at, words_of, rows_in, count_before, count_now, IsHeld}
use Rattle.std.proofs.lemmas.Nat.Bits.{bit_at-zero}

-- a word by its number is the word of each of its targets
pub word_of : (w b : ℕ) → b < 64 → (64 * w + b) / 64 ≡ w
word_of w b within = omega arith

-- who was a member, by other counters that are the same
pub presence_same : (f g : ℕ → ℕ) (w mask mask' : ℕ) → IsPresence f w mask → mask' ≡ mask → ((b : ℕ) → b < 64 → g (64 * w + b) ≡ f (64 * w + b)) → IsPresence g w mask'
presence_same f g w mask mask' is bits same b within = ap (λ n. bit_at n b) bits ∙ is b within ∙ ap (min 1) (sym (same b within))

-- nobody is present by a word of zeros
pub presence_none : (f : ℕ → ℕ) (w : ℕ) → ((b : ℕ) → b < 64 → f (64 * w + b) ≡ 0) → IsPresence f w 0
presence_none f w none b within = bit_at-zero b ∙ sym (ap (min 1) (none b within))

module _ (held held' : List (List ℕ)) (s s' : State) (is : IsHeld held s) where
  -- the counters before are the same, and there is room for those now
  pub held_on : rows_in s' ≤ length held' → ((r w : ℕ) → bits_at held' r w ≡ bits_at held r w) → ((r t : ℕ) → count_before s' r t ≡ count_before s r t)
      → ((r t : ℕ) → words_of held' r ≤ t / 64 → count_now s' r t ≡ 0) → IsHeld held' s'
  held_on rows bits before room =
      record {
        rows = rows;
        was = λ r w. presence_same (count_before s r) (count_before s' r) w (bits_at held r w) (bits_at held' r w) (is.was r w) (bits r w) (λ b within. before r (64 * w + b));
        room = room;
      }

  -- no counter moved, and no row has fewer words
  pub held_still : rows_in s' ≤ length held' → ((r : ℕ) → words_of held r ≤ words_of held' r) → ((r w : ℕ) → bits_at held' r w ≡ bits_at held r w)
      → ((r t : ℕ) → count_now s' r t ≡ count_now s r t) → ((r t : ℕ) → count_before s' r t ≡ count_before s r t) → IsHeld held' s'
  held_still rows words bits now before = held_on rows bits before (λ r t past. now r t ∙ is.room r t (omega (arith, words r, past)))

  -- counters of a word went down and others up
  module _ (row word gone come : ℕ) (lowered : ℕ → ℕ → ℕ) where
    pub held_shifted : rows_in s' ≤ length held' → ((r : ℕ) → words_of held r ≤ words_of held' r) → ((r w : ℕ) → bits_at held' r w ≡ bits_at held r w)
        → word < words_of held' row
        → ((r t : ℕ) → lowered r t + hit_at row word gone r t ≡ count_now s r t) → ((r t : ℕ) → count_now s' r t ≡ lowered r t + hit_at row word come r t)
        → ((r t : ℕ) → count_before s' r t ≡ count_before s r t) → IsHeld held' s'
    held_shifted rows words bits reach fell rose before = held_on rows bits before room
      where
        missed : (r t : ℕ) → words_of held' r ≤ t / 64 → hit_at row word come r t ≡ 0
        missed r t past =
            elim (cases_eq r row) [
              | inl same ↦
                  let here = ap (words_of held') same in
                  let other : t / 64 ≢ word = λ e. omega (arith, here, past, reach, e) in
                  hit_out row word come r t other
              | inr different ↦ hit_off row word come r t different
            ]

        room : (r t : ℕ) → words_of held' r ≤ t / 64 → count_now s' r t ≡ 0
        room r t past =
            let more = words r in
            let none = is.room r t (omega (arith, more, past)) in
            omega (arith, none, fell r t, rose r t, missed r t past)
