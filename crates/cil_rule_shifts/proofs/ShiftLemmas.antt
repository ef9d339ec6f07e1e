-- Sources and words that are gone over one after another.
use Rattle.cil_rule_shifts.proofs.Common.{◌≡◌, ℕ, ◌+◌, ◌-◌, ◌^◌, ◌<◌, ◌≤◌, ◌==◌, ◌&&◌, ◌||◌, Bool, true, false, nat_lt, refl, sym, ap, ◌∙◌, inl, inr, arith, true≢false, add-zero, zero-add, cases_eq, cases_lt, eq-eqb, ne_eqb, lt-ltb, le-ltb, has_either, has_source, in_part, is_among, one_if, AreSources, IsNext, Part, Sources}
use Rattle.std.proofs.Math.Bool.{and-false, or-false, or-true}
use Rattle.cil_rule_shifts.specs.declared.reach.Part.TheVariants.{Lost, Kept, Got}
use Rattle.cil_rule_shifts.proofs.ReachLemmas.{and-no}

-- two numbers are the same either way
pub same-either-way : (a b : ℕ) → (a == b) ≡ (b == a)
same-either-way a b = elim (cases_eq a b) [
  | inl same ↦ eq-eqb a b same ∙ sym (eq-eqb b a (sym same))
  | inr other ↦ ne_eqb a b other ∙ sym (ne_eqb b a (λ e. other (sym e)))
]

-- the sources below a number, and that one, are those below the next
pub source-more : (from source s : ℕ) (g : Bool) → from ≤ source → (from ≤ s → s < source → g ≡ false) → one_if (nat_lt s from && g) + one_if ((source == s) && g) ≡ one_if (nat_lt s (source + 1) && g)
source-more from source s g low none =
    elim (cases_eq source s) [
      | inl same ↦
          ap (λ b. one_if (b && g) + one_if ((source == s) && g)) (le-ltb s from (omega (arith, low, same)))
          ∙ zero-add (one_if ((source == s) && g)) ∙ ap (λ b. one_if (b && g)) (eq-eqb source s same)
          ∙ sym (ap (λ b. one_if (b && g)) (lt-ltb s (source + 1) (omega (arith, same))))
      | inr other ↦
          ap (λ b. one_if (nat_lt s from && g) + one_if (b && g)) (ne_eqb source s other)
          ∙ add-zero (one_if (nat_lt s from && g))
          ∙ elim (cases_lt s from) [
            | inl before ↦ ap (λ b. one_if (b && g)) (lt-ltb s from before ∙ sym (lt-ltb s (source + 1) (omega (arith, before, low))))
            | inr behind ↦
                ap (λ b. one_if (b && g)) (le-ltb s from behind)
                ∙ elim (cases_lt s source) [
                  | inl between ↦ sym (ap (λ b. one_if (nat_lt s (source + 1) && b)) (none behind between) ∙ and-no (nat_lt s (source + 1)))
                  | inr past ↦ sym (ap (λ b. one_if (b && g)) (le-ltb s (source + 1) (omega (arith, past, other))))
                ]
          ]
    ]

pub source-all : (from s : ℕ) (g : Bool) → (from ≤ s → g ≡ false) → one_if (nat_lt s from && g) ≡ one_if g
source-all from s g none =
    elim (cases_lt s from) [
      | inl before ↦ ap (λ b. one_if (b && g)) (lt-ltb s from before)
      | inr behind ↦ ap (λ b. one_if (nat_lt s from && b)) (none behind) ∙ and-no (nat_lt s from) ∙ sym (ap one_if (none behind))
    ]

kept : (b w : Bool) → b ≡ true → one_if (b && w) ≡ one_if w
kept b w is = ap (λ c. one_if (c && w)) is

left-out : (b w : Bool) → b ≡ false → one_if (b && w) ≡ 0
left-out b w is = ap (λ c. one_if (c && w)) is

-- no source is below the first
pub none-below : (s count : ℕ) (was is : Bool) → count + one_if (nat_lt s 0 && was) ≡ count + one_if (nat_lt s 0 && is)
none-below s count was is = let none = le-ltb s 0 (omega arith) in omega (arith, left-out _ was none, left-out _ is none)

-- one source more is moved; those passed over have the same as before
pub source-moved : (from source s after between before : ℕ) (was is : Bool) → from ≤ source → (from ≤ s → s < source → was ≡ is) → between + one_if (nat_lt s from && was) ≡ before + one_if (nat_lt s from && is)
    → after + one_if ((source == s) && was) ≡ between + one_if ((source == s) && is) → after + one_if (nat_lt s (source + 1) && was) ≡ before + one_if (nat_lt s (source + 1) && is)
source-moved from source s after between before was is low same so_far step =
    elim (cases_lt s from) [
      | inl first ↦
          let front = lt-ltb s from first in
          let here = ne_eqb source s (λ e. omega (arith, e, first, low)) in
          let more = lt-ltb s (source + 1) (omega (arith, first, low)) in
          omega (arith, so_far, step, kept _ was front, kept _ is front, left-out _ was here, left-out _ is here, kept _ was more, kept _ is more)
      | inr behind ↦
          let front = le-ltb s from behind in
          elim (cases_eq source s) [
            | inl at ↦
                let here = eq-eqb source s at in
                let more = lt-ltb s (source + 1) (omega (arith, at)) in
                omega (arith, so_far, step, left-out _ was front, left-out _ is front, kept _ was here, kept _ is here, kept _ was more, kept _ is more)
            | inr apart ↦
                let here = ne_eqb source s apart in
                elim (cases_lt s source) [
                  | inl earlier ↦
                      let more = lt-ltb s (source + 1) (omega (arith, earlier)) in
                      omega (arith, so_far, step, left-out _ was front, left-out _ is front, left-out _ was here, left-out _ is here, kept _ was more, kept _ is more, ap one_if (same behind earlier))
                  | inr later ↦
                      let more = le-ltb s (source + 1) (omega (arith, later, apart)) in
                      omega (arith, so_far, step, left-out _ was front, left-out _ is front, left-out _ was here, left-out _ is here, left-out _ was more, left-out _ is more)
                ]
          ]
    ]

-- what the next source had has counters
pub source-above : (from source s between before : ℕ) (was is : Bool) → from ≤ source → between + one_if (nat_lt s from && was) ≡ before + one_if (nat_lt s from && is) → one_if was ≤ before
    → one_if ((source == s) && was) ≤ between
source-above from source s between before was is low so_far counted =
    elim (cases_eq source s) [
      | inl at ↦ let front = le-ltb s from (omega (arith, low, at)) in omega (arith, so_far, counted, left-out _ was front, left-out _ is front, kept _ was (eq-eqb source s at))
      | inr apart ↦ omega (arith, left-out _ was (ne_eqb source s apart))
    ]

-- within the next source no counter is further above what it was than what comes
pub source-bounded : (from source s after between before : ℕ) (was is : Bool) → from ≤ source → between + one_if (nat_lt s from && was) ≡ before + one_if (nat_lt s from && is)
    → after ≤ between + one_if ((source == s) && is) → after ≤ before + one_if is
source-bounded from source s after between before was is low so_far step =
    elim (cases_lt s from) [
      | inl first ↦
          let front = lt-ltb s from first in
          let here = ne_eqb source s (λ e. omega (arith, e, first, low)) in
          omega (arith, so_far, step, kept _ was front, kept _ is front, left-out _ is here)
      | inr behind ↦
          let front = le-ltb s from behind in
          elim (cases_eq source s) [
            | inl at ↦ omega (arith, so_far, step, left-out _ was front, left-out _ is front, kept _ is (eq-eqb source s at))
            | inr apart ↦ omega (arith, so_far, step, left-out _ was front, left-out _ is front, left-out _ is (ne_eqb source s apart))
          ]
    ]

-- no source follows; those passed over have the same as before
pub sources-moved : (from s after before : ℕ) (was is : Bool) → (from ≤ s → was ≡ is) → after + one_if (nat_lt s from && was) ≡ before + one_if (nat_lt s from && is) → after + one_if was ≡ before + one_if is
sources-moved from s after before was is same so_far =
    elim (cases_lt s from) [
      | inl first ↦ let front = lt-ltb s from first in omega (arith, so_far, kept _ was front, kept _ is front)
      | inr behind ↦ let front = le-ltb s from behind in omega (arith, so_far, left-out _ was front, left-out _ is front, ap one_if (same behind))
    ]

-- those up to a number where there is none between
pub wider : (from to s : ℕ) (g : Bool) → from ≤ to → (from ≤ s → s < to → g ≡ false) → (nat_lt s from && g) ≡ (nat_lt s to && g)
wider from to s g low none =
    elim (cases_lt s from) [
      | inl before ↦ ap (λ b. b && g) (lt-ltb s from before ∙ sym (lt-ltb s to (omega (arith, before, low))))
      | inr behind ↦
          ap (λ b. b && g) (le-ltb s from behind)
          ∙ elim (cases_lt s to) [
            | inl between ↦ sym (ap (λ b. nat_lt s to && b) (none behind between) ∙ and-false (nat_lt s to))
            | inr past ↦ sym (ap (λ b. b && g) (le-ltb s to past))
          ]
    ]

-- the next one is one more of those below a number
pub next-more : (f : ℕ → Bool) (from next s : ℕ) → IsNext f from next → (nat_lt s (next + 1) && f s) ≡ ((nat_lt s from && f s) || (next == s))
next-more f from next s is =
    elim (cases_eq next s) [
      | inl same ↦
          ap (λ b. b && f s) (lt-ltb s (next + 1) (omega (arith, same))) ∙ ap f (sym same) ∙ is.holds
          ∙ sym (ap (λ b. (nat_lt s from && f s) || b) (eq-eqb next s same) ∙ or-true (nat_lt s from && f s))
      | inr other ↦
          sym (wider from (next + 1) s (f s) (let low = is.from_on in omega (arith, low)) (λ low high. is.first s low (omega (arith, high, other))))
          ∙ sym (ap (λ b. (nat_lt s from && f s) || b) (ne_eqb next s other) ∙ or-false (nat_lt s from && f s))
    ]

-- what neither was nor is a source is of no part
pub nowhere : (part : Part) (a b : Bool) → (a || b) ≡ false → in_part part a b ≡ false
nowhere Lost true b some = absurd (true≢false some)
nowhere Lost false b none = refl
nowhere Kept true b some = absurd (true≢false some)
nowhere Kept false b none = refl
nowhere Got true b some = absurd (true≢false some)
nowhere Got false true some = absurd (true≢false some)
nowhere Got false false none = refl

pub either-none : {A : Type 0} (sources : Sources A) (s : ℕ) → has_either sources s ≡ false → is_among sources s ≡ false
either-none sources s = nowhere sources.part (has_source sources.was.now s) (has_source sources.is.now s)

-- a source is a number of the code with one to spare
pub short-among : {A : Type 0} (sources : Sources A) → AreSources sources → (s : ℕ) → 2 ^ 64 - 1 ≤ s → is_among sources s ≡ false
short-among sources short s high =
    either-none sources s (ap (λ b. b || has_source sources.is.now s) (short.was.sources s high) ∙ short.is.sources s high)

pub short-one : {A : Type 0} (sources : Sources A) (s : ℕ) → AreSources sources → is_among sources s ≡ true → s < 2 ^ 64 - 1
short-one sources s short is =
    elim (cases_lt s (2 ^ 64 - 1)) [
      | inl low ↦ low
      | inr high ↦ absurd (true≢false (sym is ∙ short-among sources short s high))
    ]

pub short-source : {A : Type 0} (sources : Sources A) (from source : ℕ) → AreSources sources → IsNext (is_among sources) from source → source < 2 ^ 64 - 1
short-source sources from source short next =
    elim (cases_lt source (2 ^ 64 - 1)) [
      | inl low ↦ low
      | inr high ↦ absurd (true≢false (sym next.holds ∙ short-among sources short source high))
    ]
