-- Marks of rows, when counters move.
use Rattle.cil_member_rows.proofs.Common.{◌≡◌, ◌≢◌, ◌⊎◌, ◌↔◌, ℕ, ◌+◌, ◌/◌, ◌<◌, ◌≤◌, Bool, true, false, IsTrue, List, length, refl, sym, ap, subst, ◌∙◌, arith, inl, inr, cases_eq, true≢false, hit_at, State, hit_nothing, hit_off, hit_out, mark_at, rows_in, steps_in, count_before, count_now, AreMarked}
use Rattle.cil_member_rows.specs.Words.{AreSome, IsOutside}
use Rattle.cil_member_rows.specs.declared.words.Words.{Words}

module _ (marks marks' : List Words) (s s' : State) (is : AreMarked marks s) (rows : rows_in s' ≤ length marks') (before : (r t : ℕ) → count_before s' r t ≡ count_before s r t) where
  -- no counter moved, and the marks are the same
  pub marked_still : ((r : ℕ) → mark_at marks' r ≡ mark_at marks r) → ((r t : ℕ) → count_now s' r t ≡ count_now s r t) → steps_in s' ≡ steps_in s → AreMarked marks' s'
  marked_still same now steps = record {
    rows = rows;
    same = λ r t out. before r t ∙ is.same r t (subst (λ m. IsOutside m (t / 64)) (same r) out) ∙ sym (now r t);
    steps = λ r some. omega (arith, is.steps r (subst AreSome (same r) some), steps);
  }

  -- counters of a word of a row went down and others up
  module _ (row word gone come : ℕ) (lowered : ℕ → ℕ → ℕ) (step : Bool) (is_step : IsTrue step ↔ (0 < gone + come)) where
    pub marked_shifted : ((w : ℕ) → IsOutside (mark_at marks' row) w → IsOutside (mark_at marks row) w) → (step ≡ true → (w : ℕ) → IsOutside (mark_at marks' row) w → w ≢ word)
        → (AreSome (mark_at marks' row) → (step ≡ true) ⊎ AreSome (mark_at marks row)) → ((r : ℕ) → r ≢ row → mark_at marks' r ≡ mark_at marks r)
        → ((r t : ℕ) → lowered r t + hit_at row word gone r t ≡ count_now s r t) → ((r t : ℕ) → count_now s' r t ≡ lowered r t + hit_at row word come r t)
        → steps_in s ≤ steps_in s' → (0 < gone + come → 0 < steps_in s') → AreMarked marks' s'
    marked_shifted kept here some others fell rose longer grew = record {
      rows = rows;
      same = same;
      steps = steps;
    }
      where
        moved : (r t : ℕ) → hit_at row word gone r t ≡ 0 → hit_at row word come r t ≡ 0 → IsOutside (mark_at marks r) (t / 64) → count_before s' r t ≡ count_now s' r t
        moved r t no_gone no_come outside =
            let old = is.same r t outside in let first = before r t in let low = fell r t in let high = rose r t in omega (arith, no_gone, no_come, old, first, low, high)

        -- a word of no step is hit by nothing
        quiet : (t : ℕ) → IsOutside (mark_at marks' row) (t / 64) → (b : Bool) → step ≡ b → (hit_at row word gone row t ≡ 0) × (hit_at row word come row t ≡ 0)
        quiet t outside true e =
            let apart = here e (t / 64) outside in
            (hit_out row word gone row t apart, hit_out row word come row t apart)
        quiet t outside false e =
            let still : (0 < gone + come → ⊥) = (λ moves. true≢false (sym (is_step.1 moves) ∙ e)) in
            let no_gone : gone ≡ 0 = (elim (cases_eq gone 0) [ inl none ↦ none | inr other ↦ absurd (still (omega (arith, other))) ]) in
            let no_come : come ≡ 0 = (elim (cases_eq come 0) [ inl none ↦ none | inr other ↦ absurd (still (omega (arith, other))) ]) in
            (ap (λ m. hit_at row word m row t) no_gone ∙ hit_nothing row word row t, ap (λ m. hit_at row word m row t) no_come ∙ hit_nothing row word row t)

        own : (t : ℕ) → IsOutside (mark_at marks' row) (t / 64) → count_before s' row t ≡ count_now s' row t
        own t outside = let (no_gone, no_come) = quiet t outside step refl in moved row t no_gone no_come (kept (t / 64) outside)

        same : (r t : ℕ) → IsOutside (mark_at marks' r) (t / 64) → count_before s' r t ≡ count_now s' r t
        same r t outside =
            elim (cases_eq r row) [
              | inl e ↦ ap (λ k. count_before s' k t) e ∙ own t (subst (λ k. IsOutside (mark_at marks' k) (t / 64)) e outside) ∙ sym (ap (λ k. count_now s' k t) e)
              | inr other ↦ moved r t (hit_off row word gone r t other) (hit_off row word come r t other) (subst (λ words. IsOutside words (t / 64)) (others r other) outside)
            ]

        by : (step ≡ true) ⊎ AreSome (mark_at marks row) → 0 < steps_in s'
        by (inl e) = grew (is_step.0 e)
        by (inr old) = let steps = is.steps row old in omega (arith, steps, longer)

        steps : (r : ℕ) → AreSome (mark_at marks' r) → 0 < steps_in s'
        steps r marked =
            elim (cases_eq r row) [
              | inl e ↦ by (some (subst (λ k. AreSome (mark_at marks' k)) e marked))
              | inr other ↦ let old = is.steps r (subst AreSome (others r other) marked) in omega (arith, old, longer)
            ]
