-- A copy of a line leaves the counters of the others, now and before the steps.
use Rattle.cil_recorded.proofs.Common.{zero, suc, ◌≡◌, ◌≢◌, ℕ, ◌+◌, ◌-◌, ◌/◌, ◌<◌, ◌≤◌, List, [], ◌∷◌, ◌++◌, length, reverse, Bool, true, false, MatchBool, if◌then◌else◌, refl, ap, ◌∙◌, arith, inl, inr, cases_eq, Counters, count_of, Step, hit_at, taken_back, undone, CanUndo, count_in, limit_in, IsSound}
use Rattle.cil_recorded.proofs.LogLemmas.{hit_off, limit_append}
use Rattle.cil_recorded.proofs.PlaceLemmas.{taken_same}
use Rattle.cil_lines.specs.Limit.{CanRaise, CanLower}
use Rattle.std.proofs.lemmas.List.{length-append}

taken_at : (s : Step) (f g : ℕ → ℕ → ℕ) (l t : ℕ) → g l t ≡ f l t → taken_back s g l t ≡ taken_back s f l t
taken_at s f g l t same = by s.up
  where
    by : (up : Bool) → (if up then g l t - hit_at s.line s.word s.mask l t else g l t + hit_at s.line s.word s.mask l t)
        ≡ (if up then f l t - hit_at s.line s.word s.mask l t else f l t + hit_at s.line s.word s.mask l t)
    by true = ap (λ n. n - hit_at s.line s.word s.mask l t) same
    by false = ap (λ n. n + hit_at s.line s.word s.mask l t) same

-- a counter before the steps follows from that counter alone
pub undone_at : (ss : List Step) (f g : ℕ → ℕ → ℕ) (l t : ℕ) → g l t ≡ f l t → undone ss g l t ≡ undone ss f l t
undone_at [] f g l t same = same
undone_at (s ∷ ss) f g l t same = undone_at ss (taken_back s f) (taken_back s g) l t (taken_at s f g l t same)

-- no step is of a line behind the others
undone_past : (n : ℕ) (ss : List Step) (f g d : ℕ → ℕ → ℕ) → CanUndo n ss f d → (l t : ℕ) → n ≤ l → undone ss g l t ≡ g l t
undone_past n [] f g d can l t past = refl
undone_past n (s ∷ ss) f g d can l t past =
    undone_past n ss (taken_back s f) (taken_back s g) d can.1 l t past
    ∙ taken_same s g l t (hit_off s.line s.word s.mask l t (λ e. omega (arith, can.0.0, past, e)))

can_grow : (n n' : ℕ) (ss : List Step) (f f' d d' : ℕ → ℕ → ℕ) → n ≤ n' → ((l t : ℕ) → l < n → f' l t ≡ f l t) → ((l w : ℕ) → d l w ≤ d' l w) → CanUndo n ss f d → CanUndo n' ss f' d'
can_grow n n' [] f f' d d' le same more can = tt
can_grow n n' (s ∷ ss) f f' d d' le same more can =
    let within : s.line < n = can.0.0 in
    let way : MatchBool s.up (CanLower (f' s.line) s.word s.mask) (CanRaise (f' s.line) (d' s.line) s.word s.mask) = by s.up within can.0.1 in
    ((omega (arith, within, le), way), can_grow n n' ss (taken_back s f) (taken_back s f') d d' le (λ l t less. taken_at s f f' l t (same l t less)) more can.1)
  where
    by : (up : Bool) → s.line < n → MatchBool up (CanLower (f s.line) s.word s.mask) (CanRaise (f s.line) (d s.line) s.word s.mask)
        → MatchBool up (CanLower (f' s.line) s.word s.mask) (CanRaise (f' s.line) (d' s.line) s.word s.mask)
    by true less h = λ t. omega (arith, h t, same s.line t less)
    by false less h = λ t one. omega (arith, h t one, same s.line t less, more s.line (t / 64))

-- the lines with one more, whatever its counters
module _ (lines : List Counters) (x : Counters) where
  pub count_others : (l t : ℕ) → l ≢ length lines → count_in (lines ++ x ∷ []) l t ≡ count_in lines l t
  count_others = by lines
    where
      by : (ls : List Counters) (l t : ℕ) → l ≢ length ls → count_in (ls ++ x ∷ []) l t ≡ count_in ls l t
      by [] zero t other = absurd (other refl)
      by [] (suc l) t other = refl
      by (y ∷ ys) zero t other = refl
      by (y ∷ ys) (suc l) t other = by ys l t (λ e. other (ap suc e))

  pub count_last : (t : ℕ) → count_in (lines ++ x ∷ []) (length lines) t ≡ count_of x t
  count_last t = by lines
    where
      by : (ls : List Counters) → count_in (ls ++ x ∷ []) (length ls) t ≡ count_of x t
      by [] = refl
      by (y ∷ ys) = by ys

  pub before_others : (log : List Step) (l t : ℕ) → l ≢ length lines → undone (reverse log) (count_in (lines ++ x ∷ [])) l t ≡ undone (reverse log) (count_in lines) l t
  before_others log l t other = undone_at (reverse log) (count_in lines) (count_in (lines ++ x ∷ [])) l t (count_others l t other)

  pub sound_copied : (log : List Step) → IsSound lines log → IsSound (lines ++ x ∷ []) log
  sound_copied log sound =
      record {
        can =
            can_grow (length lines) (length (lines ++ x ∷ [])) (reverse log) (count_in lines) (count_in (lines ++ x ∷ [])) (limit_in lines) (limit_in (lines ++ x ∷ []))
            (omega (arith, length-append lines (x ∷ []))) (λ l t less. count_others l t (λ e. omega (arith, less, e))) (limit_append lines x) sound.can;
        turned = λ l t. elim (cases_eq l (length lines)) [
          | inl last ↦
              let past : length lines ≤ l = omega (arith, last) in
              omega (
                arith,
                sound.turned l t,
                undone_past (length lines) (reverse log) (count_in lines) (count_in lines) (limit_in lines) sound.can l t past,
                undone_past (length lines) (reverse log) (count_in lines) (count_in (lines ++ x ∷ [])) (limit_in lines) sound.can l t past,
              )
          | inr other ↦ omega (arith, sound.turned l t, count_others l t other, before_others log l t other)
        ];
      }
