-- Counters moved word by word.
use Rattle.cil_member_updates.proofs.Common.{◌≡◌, ◌==◌, ◌+◌, ◌*◌, ◌/◌, ◌%◌, ◌<◌, ◌≤◌, ◌&&◌, ℕ, Bool, refl, sym, ap, ◌∙◌, inl, inr, arith, cases_eq, cases_lt, eq-eqb, ne_eqb, bit_at-lt, bit_at, differ, hit, IsMoved, AreMoved, Stays, lowered, one_if, raised, AreHeld, Cover}
use Rattle.cil_resolve.specs.declared.meter.Meter.{Meter}
use Rattle.cil_member_updates.specs.declared.when.When.{When}
use Rattle.cil_member_updates.specs.declared.when.When.TheVariants.{Before, Now}
use Rattle.cil_recorded.specs.Recorded.{State}
use Rattle.cil_member_updates.proofs.BitLemmas.{alike}
use Rattle.cil_lines.proofs.StepLemmas.{hit-there}
use Rattle.cil_recorded.specs.Log.{hit_at}
use Rattle.cil_recorded.proofs.LogLemmas.{hit_in, hit_off, hit_on, hit_out}

-- So far in a loop: what is said of the counters and of the evaluations, and what stays.
abbrev pub SoFar : (Counts Evaluations : Type 0) (old new : State) (before after : Meter) → Type 0
SoFar Counts Evaluations old new before after =
    record {
      now : Counts;
      stays : Stays old new before after;
      evaluations : Evaluations;
    }

-- nothing moved
pub stays-first : (s : State) (m : Meter) → Stays s s m m
stays-first s m = record { counts = λ a t. refl; rows = refl; adjustments = refl }

pub stays-next : (s t u : State) (l m n : Meter) → Stays s t l m → Stays t u m n → Stays s u l n
stays-next s t u l m n one other = record {
  counts = λ a k. other.counts a k ∙ one.counts a k;
  rows = other.rows ∙ one.rows;
  adjustments = other.adjustments ∙ one.adjustments;
}

-- what gives nothing neither lowers nor raises
pub none-given : (when : When) (gives : ℕ → ℕ → ℕ) (a t : ℕ) → gives a t ≡ 0 → lowered when gives a t ≡ raised when gives a t
none-given Before gives a t none = none
none-given Now gives a t none = sym none

-- the counters of the words so far
pub record MovedBelow (word : ℕ) (was is : ℕ → ℕ → ℕ) (old new : ℕ → ℕ → ℕ) : Type 0 where
  pub below : (a t : ℕ) → t / 64 < word → new a t + was a t ≡ old a t + is a t
  pub behind : (a t : ℕ) → word ≤ t / 64 → new a t ≡ old a t

module _ (was is : ℕ → ℕ → ℕ) where
  -- nothing has to move in the first words
  pub moved-from : (word : ℕ) (old : ℕ → ℕ → ℕ) → ((a t : ℕ) → t / 64 < word → was a t ≡ is a t) → MovedBelow word was is old old
  moved-from word old same = record {
    below = λ a t low. ap (λ n. old a t + n) (same a t low);
    behind = λ a t high. refl;
  }

  pub moved-still : (word : ℕ) (old : ℕ → ℕ → ℕ) → ((a t : ℕ) → t / 64 ≡ word → was a t ≡ is a t) → IsMoved word was is old old
  moved-still word old same = record {
    here = λ a t at. ap (λ n. old a t + n) (same a t at);
    others = λ a t other. refl;
  }

  pub moved-more : (word : ℕ) (old mid new : ℕ → ℕ → ℕ) → MovedBelow word was is old mid → IsMoved word was is mid new → MovedBelow (word + 1) was is old new
  moved-more word old mid new moved more = record {
    below = λ a t low. elim (cases_lt (t / 64) word) [
      | inl before ↦ omega (arith, moved.below a t before, more.others a t (λ e. omega (arith, e, before)))
      | inr last ↦ let at : t / 64 ≡ word = omega (arith, low, last) in omega (arith, moved.behind a t last, more.here a t at)
    ];
    behind = λ a t high. more.others a t (λ e. omega (arith, e, high)) ∙ moved.behind a t (omega (arith, high));
  }

  pub moved-all : (word : ℕ) (old new : ℕ → ℕ → ℕ) → MovedBelow word was is old new → ((a t : ℕ) → word ≤ t / 64 → was a t ≡ is a t) → AreMoved was is old new
  moved-all word old new moved none a t =
      elim (cases_lt (t / 64) word) [
        | inl before ↦ moved.below a t before
        | inr past ↦ omega (arith, moved.behind a t past, none a t past)
      ]

  -- counters of a row that neither of the two is of stay
  pub moved-other : (word : ℕ) (old new : ℕ → ℕ → ℕ) → MovedBelow word was is old new → (a t : ℕ) → was a t ≡ is a t → new a t ≡ old a t
  moved-other word old new moved a t same =
      elim (cases_lt (t / 64) word) [
        | inl before ↦ omega (arith, moved.below a t before, same)
        | inr past ↦ moved.behind a t past
      ]

  -- a shift by masks that differ where the two do
  pub moved-by : (row word lower raise : ℕ) (old new : ℕ → ℕ → ℕ) → ((a t : ℕ) → new a t + hit_at row word lower a t ≡ old a t + hit_at row word raise a t)
      → ((a t : ℕ) → t / 64 ≡ word → was a t + hit_at row word raise a t ≡ is a t + hit_at row word lower a t) → IsMoved word was is old new
  moved-by row word lower raise old new shifted agree = record {
    here = λ a t at. omega (arith, shifted a t, agree a t at);
    others = λ a t other. omega (arith, shifted a t, hit_out row word lower a t other, hit_out row word raise a t other);
  }

-- a counter of a mask
pub hit-held : (row word visits mask : ℕ) (test : ℕ → Bool) → AreHeld visits test word mask → (a t : ℕ) → t / 64 ≡ word
    → hit_at row word mask a t ≡ one_if ((a == row) && ((bit_at visits (t % 64) == 1) && test t))
hit-held row word visits mask test held a t at =
    elim (cases_eq a row) [
      | inl same ↦
          hit_on row word mask a t same at ∙ held (t % 64) (omega arith)
          ∙ ap (λ n. one_if ((bit_at visits (t % 64) == 1) && test n)) (omega (arith, at))
          ∙ sym (ap (λ b. one_if (b && ((bit_at visits (t % 64) == 1) && test t))) (eq-eqb a row same))
      | inr other ↦ hit_off row word mask a t other ∙ sym (ap (λ b. one_if (b && ((bit_at visits (t % 64) == 1) && test t))) (ne_eqb a row other))
    ]

-- a mask of a row hits no more than so much
pub hit-most : (row word mask : ℕ) (most : ℕ → ℕ) → ((t : ℕ) → t / 64 ≡ word → hit_at row word mask row t ≤ most t) → (t : ℕ) → hit word mask t ≤ most t
hit-most row word mask most here t =
    elim (cases_eq (t / 64) word) [
      | inl at ↦ omega (arith, here t at, hit_in row word mask row t refl)
      | inr other ↦ omega (arith, hit-there word mask t other)
    ]

-- a symbol that isn't visited is one where two tests are the same
pub visited-same : (visits word : ℕ) (was is : ℕ → Bool) → Cover (λ t. differ (was t) (is t)) word visits → (t : ℕ) → t / 64 ≡ word
    → one_if (was t) + one_if ((bit_at visits (t % 64) == 1) && is t) ≡ one_if (is t) + one_if ((bit_at visits (t % 64) == 1) && was t)
visited-same visits word was is covers t at =
    elim (cases_eq (bit_at visits (t % 64)) 1) [
      | inl set ↦
          let both : (h : Bool) → one_if ((bit_at visits (t % 64) == 1) && h) ≡ one_if h = (λ h. ap (λ b. one_if (b && h)) (eq-eqb (bit_at visits (t % 64)) 1 set)) in
          omega (arith, both (was t), both (is t))
      | inr clear ↦
          let here : 64 * word + t % 64 ≡ t = omega (arith, at) in
          let none : bit_at visits (t % 64) ≡ 0 = omega (arith, bit_at-lt visits (t % 64), clear) in
          let same : was t ≡ is t = alike (was t) (is t) (sym (ap (λ n. differ (was n) (is n)) here) ∙ covers (t % 64) (omega arith) none) in
          let off : (h : Bool) → one_if ((bit_at visits (t % 64) == 1) && h) ≡ 0 = (λ h. ap (λ b. one_if (b && h)) (ne_eqb (bit_at visits (t % 64)) 1 clear)) in
          omega (arith, off (was t), off (is t), ap one_if same)
    ]
