-- What rules reach, word by word and source by source.
use Rattle.cil_rule_shifts.proofs.Common.{◌≡◌, ◌≢◌, ℕ, ◌+◌, ◌-◌, ◌*◌, ◌/◌, ◌%◌, ◌^◌, ◌<◌, ◌≤◌, ◌==◌, ◌&&◌, ◌||◌, Bool, true, false, nat_lt, Option, None, Some, MatchOption, w64, refl, sym, ap, ◌∙◌, subst, inl, inr, arith, true≢false, min, div-add-mod', div-le_self, mod-lt, pow_pos, bit_at, trailing_zeros, cases_eq, cases_lt, eq-eqb, ne_eqb, lt-ltb, le-ltb, leb-true, leb-false, bit_at-pow_same, bit_at-pow_other, bit_at_cat_high, bit_at-trailing_zeros, bit_at_above, bit_at-zero, Counters, count_of, hit, NonePresent, IsNextPresent, IsPresence, hit-here, hit-there, hit-none, one_if, has_type, is_present, takes, IsMask, IsNext, NoneFrom, IsNextWord, NoneFromWord, Targets, Types, nat_eq}
use Rattle.cil_rule_shifts.specs.Groups.{HasWord}
use Rattle.cil_rule_shifts.specs.Reach.{AreNoneBefore, IsMaybeWord}
use Rattle.std.specs.Bool.{then_some}
use Rattle.std.proofs.Math.Dec.{leb}
use Rattle.cil_rule_shifts.specs.declared.targets.Targets.TheVariants.{Nothing, Itself, These}
use Rattle.cil_rule_shifts.specs.declared.types.Types.TheVariants.{One, Many}

-- the bit of a number in its word
pub bit-here : (number word : ℕ) → number / 64 ≡ word → IsMask (nat_eq number) word (2 ^ (number % 64))
bit-here number word at b within =
    elim (cases_eq number (64 * word + b)) [
      | inl is ↦
          let low : number % 64 ≡ b = omega (arith, is, within) in
          ap (λ n. bit_at (2 ^ n) b) low ∙ bit_at-pow_same b ∙ sym (ap one_if (eq-eqb number (64 * word + b) is))
      | inr other ↦
          bit_at-pow_other (number % 64) b (λ e. other (omega (arith, e, at)))
          ∙ sym (ap one_if (ne_eqb number (64 * word + b) other))
    ]

pub and-no : (b : Bool) → one_if (b && false) ≡ 0
and-no true = refl
and-no false = refl

pub one-true : (b : Bool) → one_if b ≡ 1 → b ≡ true
one-true true one = refl
one-true false one = absurd (omega (arith, one))

pub one-false : (b : Bool) → one_if b ≡ 0 → b ≡ false
one-false true none = absurd (omega (arith, none))
one-false false none = refl

-- it is in no other
pub bit-there : (number word : ℕ) → number / 64 ≢ word → IsMask (nat_eq number) word 0
bit-there number word other b within = bit_at-zero b ∙ sym (ap one_if (ne_eqb number (64 * word + b) (λ e. other (omega (arith, e, within)))))

-- a counter that is 0 is not present, and one that is present isn't 0
pub present-none : (line : Counters) (s : ℕ) → count_of line s ≡ 0 → is_present line s ≡ false
unfolding is_present
present-none line s none = ap (nat_lt 0) none

pub present-some : (line : Counters) (s : ℕ) → 0 < count_of line s → is_present line s ≡ true
unfolding is_present
present-some line s some = lt-ltb 0 (count_of line s) some

-- what is counted, as far as that is told
pub present-counted : (line : Counters) (s n : ℕ) → n ≡ min (count_of line s) 18446744073709551615 → nat_lt 0 n ≡ is_present line s
present-counted line s n told =
    elim (cases_lt 0 (count_of line s)) [
      | inl some ↦ lt-ltb 0 n (omega (arith, told, some)) ∙ sym (present-some line s some)
      | inr none ↦ le-ltb 0 n (omega (arith, told, none)) ∙ sym (present-none line s (omega (arith, none)))
    ]

pub present-one : (line : Counters) (s : ℕ) → min 1 (count_of line s) ≡ one_if (is_present line s)
present-one line s =
    elim (cases_lt 0 (count_of line s)) [
      | inl some ↦ omega (arith, some) ∙ ap one_if (sym (present-some line s some))
      | inr none ↦ omega (arith, none) ∙ ap one_if (sym (present-none line s (omega (arith, none))))
    ]

-- the bits of a mask
pub word-bits : (f : ℕ → Bool) (word mask t : ℕ) → IsMask f word mask → hit word mask t ≡ one_if ((t / 64 == word) && f t)
word-bits f word mask t bits =
    elim (cases_eq (t / 64) word) [
      | inl same ↦
          hit-here word mask t same ∙ bits (t % 64) (omega arith)
          ∙ ap (λ n. one_if (f n)) (omega (arith, same))
          ∙ sym (ap (λ b. one_if (b && f t)) (eq-eqb (t / 64) word same))
      | inr other ↦ hit-there word mask t other ∙ sym (ap (λ b. one_if (b && f t)) (ne_eqb (t / 64) word other))
    ]

-- the mask of a word of a line
pub present-hits : (line : Counters) (word mask : ℕ) → IsPresence (count_of line) word mask → HasWord (is_present line) word mask
present-hits line word mask bits t = word-bits (is_present line) word mask t (λ b within. bits b within ∙ present-one line (64 * word + b))

-- the next word of those that are present
pub present-word : (line : Counters) (from : ℕ) (result : Option ℕ) → MatchOption result (NonePresent (count_of line) from) (IsNextPresent (count_of line) from)
    → MatchOption result (NoneFromWord (is_present line) from) (IsNextWord (is_present line) from)
present-word line from None none = λ t behind. present-none line t (none t behind)
present-word line from (Some next) found = record {
  from_on = found.from_on;
  present = (found.present.0, found.present.1, present-some line found.present.0 found.present.2);
  first = λ t behind before. present-none line t (found.first t behind before);
}

-- the first word of one number
pub one-word : (number from : ℕ) → MatchOption (then_some (leb from (number / 64)) (number / 64)) (NoneFromWord (nat_eq number) from) (IsNextWord (nat_eq number) from)
one-word number from = at (leb from (number / 64)) refl
  where
    at : (b : Bool) → leb from (number / 64) ≡ b → MatchOption (then_some b (number / 64)) (NoneFromWord (nat_eq number) from) (IsNextWord (nat_eq number) from)
    at true low = record {
      from_on = leb-true from (number / 64) low;
      present = (number, refl, eq-eqb number number refl);
      first = λ t behind before. ne_eqb number t (λ e. omega (arith, e, before));
    }
    at false high = λ t behind. ne_eqb number t (λ e. let above = leb-false from (number / 64) high in omega (arith, e, behind, above))

module _ {A : Type 0} (types : Types A) where
  pub type-one : (ty : ℕ) → types ≡ One ty → (t : ℕ) → has_type types t ≡ (ty == t)
  unfolding has_type
  type-one ty is t = ap (λ ts. has_type ts t) is

  pub type-many : (line : Counters) → types ≡ Many line → (t : ℕ) → has_type types t ≡ is_present line t
  unfolding has_type
  type-many line is t = ap (λ ts. has_type ts t) is

module _ {A : Type 0} (targets : Targets A) (source : ℕ) where
  pub takes-nothing : targets ≡ Nothing → (t : ℕ) → takes targets source t ≡ false
  unfolding takes
  takes-nothing is t = ap (λ ts. takes ts source t) is

  pub takes-itself : targets ≡ Itself → (t : ℕ) → takes targets source t ≡ (source == t)
  unfolding takes
  takes-itself is t = ap (λ ts. takes ts source t) is

  pub takes-these : (types : Types A) → targets ≡ These types → (t : ℕ) → takes targets source t ≡ has_type types t
  unfolding takes
  takes-these types is t = ap (λ ts. takes ts source t) is

  pub word-none : targets ≡ Nothing → (word t : ℕ) → hit word 0 t ≡ one_if ((t / 64 == word) && takes targets source t)
  word-none is word t = hit-none word t ∙ sym (ap (λ b. one_if ((t / 64 == word) && b)) (takes-nothing is t) ∙ and-no (t / 64 == word))

-- the bits of a word shifted down
pub shifted-bit : (n k i : ℕ) → bit_at (n / 2 ^ k) i ≡ bit_at n (k + i)
shifted-bit n k i =
    ap (bit_at (n / 2 ^ k)) (omega arith) ∙ sym (bit_at_cat_high (n / 2 ^ k) k (n % 2 ^ k) (k + i) (mod-lt n (pow_pos k)) (omega arith)) ∙ ap (λ m. bit_at m (k + i)) (div-add-mod' n (2 ^ k))

module _ (f : ℕ → Bool) where
  module _ (from bits : ℕ) (presence : IsMask f (from / 64) bits) (fits : bits < 2 ^ 64) where
    -- what is behind the start by its bit
    behind : (i : ℕ) → from % 64 + i < 64 → bit_at (bits / 2 ^ (from % 64)) i ≡ one_if (f (from + i))
    behind i small = shifted-bit bits (from % 64) i ∙ presence (from % 64 + i) small ∙ ap (λ n. one_if (f n)) (omega arith)

    none-at : (n : ℕ) → from ≤ n → one_if (f (from + (n - from))) ≡ 0 → f n ≡ false
    none-at n low none = let same : from + (n - from) ≡ n = omega (arith, low) in one-false (f n) (subst (λ m. one_if (f m) ≡ 0) same none)

    pub next-here : bits / 2 ^ (from % 64) ≢ 0 → IsNext f from (from + trailing_zeros w64 (bits / 2 ^ (from % 64)))
    next-here some =
        let small : bits / 2 ^ (from % 64) < 2 ^ 64 = (let less = div-le_self bits (2 ^ (from % 64)) in omega (arith, less, fits)) in
        let lowest = bit_at-trailing_zeros w64 (bits / 2 ^ (from % 64)) (positive some) small in
        let z = trailing_zeros w64 (bits / 2 ^ (from % 64)) in
        let within : from % 64 + z < 64 = inside z lowest.1 in
        record {
          from_on = omega arith;
          holds = one-true (f (from + z)) (sym (behind z within) ∙ lowest.1);
          first = λ n low high. none-at n low (sym (behind (n - from) (omega (arith, within, low, high))) ∙ lowest.2 (n - from) (omega (arith, low, high)));
        }
      where
        positive : bits / 2 ^ (from % 64) ≢ 0 → 0 < bits / 2 ^ (from % 64)
        positive other =
            elim (cases_lt 0 (bits / 2 ^ (from % 64))) [
              | inl more ↦ more
              | inr none ↦ absurd (other (omega (arith, none)))
            ]

        inside : (z : ℕ) → bit_at (bits / 2 ^ (from % 64)) z ≡ 1 → from % 64 + z < 64
        inside z is =
            elim (cases_lt (from % 64 + z) 64) [
              | inl low ↦ low
              | inr high ↦ let none = bit_at_above bits 64 (from % 64 + z) fits high in let one = sym (shifted-bit bits (from % 64) z) ∙ is in absurd (omega (arith, none, one))
            ]

    -- there is none in the word's rest
    pub none-here : bits / 2 ^ (from % 64) ≡ 0 → (n : ℕ) → from ≤ n → n / 64 < from / 64 + 1 → f n ≡ false
    none-here none n low high =
        let small : from % 64 + (n - from) < 64 = omega (arith, low, high) in
        none-at n low (sym (behind (n - from) small) ∙ ap (λ m. bit_at m (n - from)) none ∙ bit_at-zero (n - from))

  module _ (word bits : ℕ) (presence : IsMask f word bits) where
    in-word : (t : ℕ) → t / 64 ≡ word → bit_at bits (t % 64) ≡ one_if (f t)
    in-word t there = presence (t % 64) (omega arith) ∙ ap (λ n. one_if (f n)) (omega (arith, there))

    -- a word of no bits has none
    pub none-in_word : bits ≡ 0 → (t : ℕ) → t / 64 ≡ word → f t ≡ false
    none-in_word none t there = one-false (f t) (sym (in-word t there) ∙ ap (λ m. bit_at m (t % 64)) none ∙ bit_at-zero (t % 64))

    some-bits : (t : ℕ) → t / 64 ≡ word → f t ≡ true → 0 < bits
    some-bits t there is =
        elim (cases_lt 0 bits) [
          | inl more ↦ more
          | inr none ↦ let no : bits ≡ 0 = omega (arith, none) in absurd (true≢false (sym is ∙ none-in_word no t there))
        ]

    module _ (fits : bits < 2 ^ 64) (more : 0 < bits) where
      lowest-in : IsNext f (64 * word) (64 * word + trailing_zeros w64 bits) × (trailing_zeros w64 bits < 64)
      lowest-in =
          let lowest = bit_at-trailing_zeros w64 bits more fits in
          let z = trailing_zeros w64 bits in
          let small = lowest.0 in (
            record {
              from_on = omega arith;
              holds = one-true (f (64 * word + z)) (sym (presence z lowest.0) ∙ lowest.1);
              first = λ n low high. one-false (f n) (sym (in-word n (omega (arith, low, high, small))) ∙ lowest.2 (n % 64) (omega (arith, low, high, small)));
            },
            lowest.0,
          )

      -- a word of some bits has one
      pub some-in_word : (t : ℕ) × (t / 64 ≡ word) × (f t ≡ true)
      some-in_word = let small = lowest-in.1 in (64 * word + trailing_zeros w64 bits, omega (arith, small), lowest-in.0.holds)

  -- the first of the next word
  pub next-there : (from word bits : ℕ) → ((n : ℕ) → from ≤ n → n / 64 < from / 64 + 1 → f n ≡ false) → IsNextWord f (from / 64 + 1) word → IsMask f word bits → bits < 2 ^ 64
      → IsNext f from (64 * word + trailing_zeros w64 bits)
  next-there from word bits rest next presence fits =
      let some = some-bits word bits presence next.present.0 next.present.1 next.present.2 in
      let lowest = lowest-in word bits presence fits some in
      let on = next.from_on in
      record {
        from_on = omega (arith, on);
        holds = lowest.0.holds;
        first = λ n low high. elim (cases_lt (n / 64) (from / 64 + 1)) [
          | inl here ↦ rest n low here
          | inr past ↦ elim (cases_lt (n / 64) word) [
            | inl before ↦ next.first n past before
            | inr at ↦ lowest.0.first n (omega (arith, at)) high
          ]
        ];
      }

  -- where there is no next word, none is there
  pub none-there : (from : ℕ) → ((n : ℕ) → from ≤ n → n / 64 < from / 64 + 1 → f n ≡ false) → NoneFromWord f (from / 64 + 1) → NoneFrom f from
  none-there from rest none n low =
      elim (cases_lt (n / 64) (from / 64 + 1)) [
        | inl here ↦ rest n low here
        | inr past ↦ none n past
      ]

  -- and the first is a number of the code where all are
  pub fits-next : ((s : ℕ) → 2 ^ 64 ≤ s → f s ≡ false) → (from next : ℕ) → IsNext f from next → next < 2 ^ 64
  fits-next short from next is =
      elim (cases_lt next (2 ^ 64)) [
        | inl low ↦ low
        | inr high ↦ absurd (true≢false (sym is.holds ∙ short next high))
      ]

-- the first word of a test, behind words that were passed
pub passed-word : (f wide : ℕ → Bool) (from at word mask : ℕ) → from ≤ at → ((t : ℕ) → from ≤ t / 64 → t / 64 < at → f t ≡ false) → AreNoneBefore f wide at word
    → IsMask f word mask → mask < 2 ^ 64 → mask ≢ 0 → IsNextWord f from word
passed-word f wide from at word mask low passed next presence fits some = record {
  from_on = let on = next.from_on in omega (arith, low, on);
  present = some-in_word f word mask presence fits positive;
  first = λ t behind before. elim (cases_lt (t / 64) at) [
    | inl earlier ↦ passed t behind earlier
    | inr past ↦ next.first t past before
  ];
}
  where
    positive : 0 < mask
    positive =
        elim (cases_lt 0 mask) [
          | inl more ↦ more
          | inr none ↦ absurd (some (omega (arith, none)))
        ]

-- what neither has, neither the one nor the other has
pub no-first : (a b : Bool) → (a || b) ≡ false → a ≡ false
no-first true b e = e
no-first false b e = refl

pub no-second : (a b : Bool) → (a || b) ≡ false → b ≡ false
no-second true b e = absurd (true≢false e)
no-second false b e = e

-- a word that is the first of a test, for a narrower one
pub maybe-word : (f test wide : ℕ → Bool) → ((t : ℕ) → test t ≡ false → f t ≡ false) → ((t : ℕ) → test t ≡ true → wide t ≡ true) → (from : ℕ) (found : Option ℕ)
    → MatchOption found (NoneFromWord test from) (IsNextWord test from) → IsMaybeWord f wide from found
maybe-word f test wide narrow wider from None none = λ t behind. narrow t (none t behind)
maybe-word f test wide narrow wider from (Some next) is = record {
  from_on = is.from_on;
  present = (is.present.0, is.present.1, wider is.present.0 is.present.2);
  first = λ t behind before. narrow t (is.first t behind before);
}

-- a test that holds where one of two does
module _ (f g : ℕ → Bool) where
  pub first-some : (t : ℕ) → f t ≡ true → (f t || g t) ≡ true
  first-some t is = ap (λ b. b || g t) is

  pub second-some : (t : ℕ) → g t ≡ true → (f t || g t) ≡ true
  second-some t is = ap (λ b. f t || b) is ∙ or-true (f t)
    where
      or-true : (b : Bool) → (b || true) ≡ true
      or-true true = refl
      or-true false = refl
