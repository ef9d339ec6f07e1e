-- Rows without a mark have the members that they had.
use Rattle.cil_table_updates.proofs.Common.{◌≡◌, ℕ, ◌+◌, ◌-◌, ◌≤◌, ◌==◌, Bool, false, List, [], ◌∷◌, length, min, nat_lt, take, take_all, refl, sym, ap, ◌∙◌, inl, inr, arith, true≢false, zero-add, list_any, cases_lt, eq-eqb, le-ltb, lt-ltb}
use Rattle.std.specs.Prelude.{sum_by}
use Rattle.std.proofs.lemmas.List.Sums.{sum_by-cons}
use Rattle.cil_recorded.specs.Log.{hit_at}
use Rattle.cil_recorded.specs.declared.recorded_lines.changes.Change.{Change}
use Rattle.cil_recorded.proofs.LogLemmas.{hit_off}
use Rattle.cil_rule_shifts.proofs.ReachLemmas.{no-first, no-second}

-- no change is of the row
pub none-hit : (mask : Change → ℕ) (changes : List Change) (a t : ℕ) → list_any (λ change. change.line == a) changes ≡ false
    → sum_by (λ c. hit_at c.line c.word (mask c) a t) changes ≡ 0
none-hit mask [] a t none = refl
none-hit mask (change ∷ changes) a t none =
    sum_by-cons (λ c. hit_at c.line c.word (mask c) a t) change changes
    ∙ ap (λ n. n + sum_by (λ c. hit_at c.line c.word (mask c) a t) changes)
    (hit_off change.line change.word (mask change) a t (λ e. true≢false (sym (eq-eqb change.line a (sym e)) ∙ no-first (change.line == a) (list_any (λ c. c.line == a) changes) none)))
    ∙ zero-add (sum_by (λ c. hit_at c.line c.word (mask c) a t) changes)
    ∙ none-hit mask changes a t (no-second (change.line == a) (list_any (λ c. c.line == a) changes) none)

-- so what was above 0 is, and the other way round
pub same-present : (before now : ℕ) → min 1 now - min 1 before ≡ 0 → min 1 before - min 1 now ≡ 0 → nat_lt 0 before ≡ nat_lt 0 now
same-present before now none_came none_went =
    elim (cases_lt 0 before) [
      | inl was ↦ lt-ltb 0 before was ∙ sym (lt-ltb 0 now (omega (arith, was, none_went)))
      | inr was_none ↦ le-ltb 0 before was_none ∙ sym (le-ltb 0 now (omega (arith, was_none, none_came)))
    ]

-- the marks of all changes
pub unmarked : (changes items : List Change) (index a : ℕ) (marked : Bool) → items ≡ changes → length items ≤ index → marked ≡ list_any (λ change. change.line == a) (take index items) → marked ≡ false
    → list_any (λ change. change.line == a) changes ≡ false
unmarked changes items index a marked same all is none = sym (is ∙ ap (list_any (λ change. change.line == a)) (take_all index items all ∙ same)) ∙ none
