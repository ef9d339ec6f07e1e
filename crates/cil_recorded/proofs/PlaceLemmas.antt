-- Counters of a word that no step is of are as they were.
use Rattle.cil_recorded.proofs.Common.{suc, ◌≡◌, ℕ, ◌+◌, ◌-◌, ◌/◌, ◌<◌, ◌≤◌, List, [], ◌∷◌, length, get_or, reverse, Bool, true, false, if◌then◌else◌, refl, sym, ap, ◌∙◌, arith, inl, inr, cases_eq, get_or-reverse, length-reverse, Step, hit_at, taken_back, undone}
use Rattle.cil_recorded.proofs.LogLemmas.{hit_off, hit_out}

abbrev no_step : Step
no_step = record { line = 0; word = 0; mask = 0; turned = 0; up = false; clears = false }

-- no step of a list is of the word of a line
abbrev None : List Step → ℕ → ℕ → Type 0
None ss l w = (k : ℕ) → k < length ss → (get_or ss k no_step).line ≡ l → (get_or ss k no_step).word ≡ w → ⊥

pub taken_same : (s : Step) (f : ℕ → ℕ → ℕ) (l t : ℕ) → hit_at s.line s.word s.mask l t ≡ 0 → taken_back s f l t ≡ f l t
taken_same s f l t none = by s.up
  where
    by : (up : Bool) → (if up then f l t - hit_at s.line s.word s.mask l t else f l t + hit_at s.line s.word s.mask l t) ≡ f l t
    by true = omega (arith, none)
    by false = omega (arith, none)

not_hit : (s : Step) (l t : ℕ) → (s.line ≡ l → s.word ≡ t / 64 → ⊥) → hit_at s.line s.word s.mask l t ≡ 0
not_hit s l t other =
    elim (cases_eq l s.line) [
      | inl same ↦
          elim (cases_eq (t / 64) s.word) [
            | inl here ↦ absurd (other (sym same) (sym here))
            | inr there ↦ hit_out s.line s.word s.mask l t there
          ]
      | inr different ↦ hit_off s.line s.word s.mask l t different
    ]

undone_none : (ss : List Step) (f : ℕ → ℕ → ℕ) (l t : ℕ) → None ss l (t / 64) → undone ss f l t ≡ f l t
undone_none [] f l t none = refl
undone_none (s ∷ ss) f l t none =
    undone_none ss (taken_back s f) l t (λ k within. none (suc k) (omega arith))
    ∙ taken_same s f l t (not_hit s l t (none 0 (omega arith)))

pub untouched : (log : List Step) (f : ℕ → ℕ → ℕ) (l t : ℕ)
    → ((k : ℕ) → 0 ≤ k → k < length log → (get_or log k no_step).line ≡ l → (get_or log k no_step).word ≡ t / 64 → ⊥)
    → f l t ≡ undone (reverse log) f l t
untouched log f l t none =
    sym (undone_none (reverse log) f l t (λ k within line word.
    let long : k < length log = omega (arith, length-reverse log, within) in
    let is = get_or-reverse log k no_step long in
    none (length log - 1 - k) (omega arith) (omega arith) (sym (ap (λ (s : Step). s.line) is) ∙ line) (sym (ap (λ (s : Step). s.word) is) ∙ word)))
