-- Bits of words.
use Rattle.cil_member_updates.proofs.Common.{◌≡◌, ◌≢◌, ◌==◌, ◌+◌, ◌-◌, ◌*◌, ◌/◌, ◌%◌, ◌^◌, ◌<◌, ◌≤◌, ◌&&◌, ℕ, Bool, true, false, bit_and, bit_or, nat_lt, refl, sym, ap, ◌∙◌, inl, inr, arith, trailing_zeros, up_to, w64, below_more, cases_lt, eq-eqb, ne_eqb, le-ltb, lt-ltb, bit_at_and, bit_at_or, bit_at_set_same, bit_at-lt, bit_at-pow_same, bit_at-pow_other, bit_at-trailing_zeros, bit_at-zero, bit_at_above, div-le_self, shr-shr, and-false, bit_at, IsPresence, one_if, differ, AreBits, Cover, CoverAmong}

pub cover-first : (test : ℕ → Bool) (word one other : ℕ) → Cover test word one → Cover test word (bit_or one other)
cover-first test word one other covers b within none = covers b within (omega (arith, none, bit_at_or one other b))

pub cover-second : (test : ℕ → Bool) (word one other : ℕ) → Cover test word other → Cover test word (bit_or one other)
cover-second test word one other covers b within none = covers b within (omega (arith, none, bit_at_or one other b))

-- the bit of a symbol in its word
pub cover-here : (symbol word bits : ℕ) → bit_at bits (symbol % 64) ≡ 1 → Cover (λ t. symbol == t) word bits
cover-here symbol word bits set b within none =
    ne_eqb symbol (64 * word + b) (λ e. let at : symbol % 64 ≡ b = omega (arith, e, within) in let same = ap (bit_at bits) at in omega (arith, same, set, none))

-- who is present
pub cover-present : (counts : ℕ → ℕ) (word bits : ℕ) → IsPresence counts word bits → Cover (λ t. nat_lt 0 (counts t)) word bits
cover-present counts word bits presence b within none = le-ltb 0 (counts (64 * word + b)) (omega (arith, none, presence b within))

pub cover-bits : (test : ℕ → Bool) (word bits : ℕ) → AreBits test word bits → Cover test word bits
cover-bits test word bits are b within none = by (test (64 * word + b)) (sym (are b within) ∙ none)
  where
    by : (h : Bool) → one_if h ≡ 0 → h ≡ false
    by true e = absurd (omega (arith, e))
    by false e = refl

-- the bits so far of those that a test holds at
pub record HeldBelow (visits : ℕ) (test : ℕ → Bool) (word b mask : ℕ) : Type 0 where
  pub below : (k : ℕ) → k < b → bit_at mask k ≡ one_if ((bit_at visits k == 1) && test (64 * word + k))
  pub behind : (k : ℕ) → b ≤ k → bit_at mask k ≡ 0

pub held-none : (visits : ℕ) (test : ℕ → Bool) (word : ℕ) → HeldBelow visits test word 0 0
held-none visits test word = record {
  below = λ k low. absurd (omega (arith, low));
  behind = λ k high. bit_at-zero k;
}

module _ (visits : ℕ) (test : ℕ → Bool) (word b mask : ℕ) (held : HeldBelow visits test word b mask) where
  -- no bits at symbols where the test isn't asked for or fails
  pub held-past : (next : ℕ) → b ≤ next → ((k : ℕ) → b ≤ k → k < next → ((bit_at visits k == 1) && test (64 * word + k)) ≡ false) → HeldBelow visits test word next mask
  held-past next on fails = record {
    below = λ k low. elim (cases_lt k b) [
      | inl before ↦ held.below k before
      | inr past ↦ held.behind k past ∙ sym (ap one_if (fails k past low))
    ];
    behind = λ k high. held.behind k (omega (arith, on, high));
  }

  -- the bit where the test is asked for
  pub held-add : (answer : Bool) (more : ℕ) → b < 64 → bit_at visits b ≡ 1 → answer ≡ test (64 * word + b) → bit_at more b ≡ one_if answer → ((k : ℕ) → k ≢ b → bit_at more k ≡ 0)
      → HeldBelow visits test word (b + 1) (bit_or mask more)
  held-add answer more within set is here others = record {
    below = λ k low. elim (cases_lt k b) [
      | inl before ↦ omega (arith, bit_at_or mask more k, others k (λ e. omega (arith, e, before)), held.below k before)
      | inr last ↦ at k (omega (arith, low, last))
    ];
    behind = λ k high. omega (arith, bit_at_or mask more k, others k (λ e. omega (arith, e, high)), held.behind k (omega (arith, high)));
  }
    where
      at : (k : ℕ) → k ≡ b → bit_at (bit_or mask more) k ≡ one_if ((bit_at visits k == 1) && test (64 * word + k))
      at k same =
          ap (bit_at (bit_or mask more)) same
          ∙ omega (arith, bit_at_or mask more b, held.behind b (omega arith), here)
          ∙ ap one_if (is ∙ sym (ap (λ x. x && test (64 * word + b)) (eq-eqb (bit_at visits b) 1 set)) ∙ sym (ap (λ j. (bit_at visits j == 1) && test (64 * word + j)) same))

-- a bit alone
pub one-bit : (k : ℕ) → k < 64 → bit_at (1 * 2 ^ k % 2 ^ 64) k ≡ 1
one-bit k within = omega (arith, bit_at_set_same w64 0 k within, bit_at_or 0 (1 * 2 ^ k % 2 ^ 64) k, bit_at-zero k)

-- the bit of an answer
one-times : (n : ℕ) → 1 * n ≡ n
one-times n = omega arith

no-times : (n : ℕ) → 0 * n ≡ 0
no-times n = omega arith

pub answer-bit : (answer : Bool) (t b : ℕ) → t % 64 ≡ b → bit_at (one_if answer * 2 ^ (t % 64)) b ≡ one_if answer
answer-bit true t b at = ap (λ n. bit_at n b) (one-times (2 ^ (t % 64))) ∙ ap (λ k. bit_at (2 ^ k) b) at ∙ bit_at-pow_same b
answer-bit false t b at = ap (λ n. bit_at n b) (no-times (2 ^ (t % 64))) ∙ bit_at-zero b

pub answer-other : (answer : Bool) (t b : ℕ) → t % 64 ≡ b → (k : ℕ) → k ≢ b → bit_at (one_if answer * 2 ^ (t % 64)) k ≡ 0
answer-other true t b at k other = ap (λ n. bit_at n k) (one-times (2 ^ (t % 64))) ∙ bit_at-pow_other (t % 64) k (λ e. other (omega (arith, e, at)))
answer-other false t b at k other = ap (λ n. bit_at n k) (no-times (2 ^ (t % 64))) ∙ bit_at-zero k

-- two answers that don't differ
pub alike : (p q : Bool) → differ p q ≡ false → p ≡ q
alike true true e = refl
alike true false e = e
alike false true e = sym e
alike false false e = refl

-- a bit that is set among others
pub set-among : (bits among b : ℕ) → bit_at (bit_and bits among) b ≡ 1 → bit_at bits b ≡ 1
set-among bits among b set = omega (arith, set, bit_at_and bits among b, bit_at-lt bits b, bit_at-lt among b)

-- two tests differ where bits are set that cover this, among those where one of the two may hold
pub cover-either : (was is : ℕ → Bool) (word bits one other : ℕ) → Cover (λ t. differ (was t) (is t)) word bits → CoverAmong bits was word one → CoverAmong bits is word other
    → Cover (λ t. differ (was t) (is t)) word (bit_and bits (bit_or one other))
cover-either was is word bits one other differs covers_was covers_is b within none = elim (cases_lt 0 (bit_at bits b)) [
  | inl some ↦
      let either : bit_at (bit_or one other) b ≡ 0 = omega (arith, some, none, bit_at_and bits (bit_or one other) b) in
      let set : bit_at bits b ≡ 1 = omega (arith, some, bit_at-lt bits b) in
      let not_was : was (64 * word + b) ≡ false = covers_was b within set (omega (arith, either, bit_at_or one other b)) in
      let not_is : is (64 * word + b) ≡ false = covers_is b within set (omega (arith, either, bit_at_or one other b)) in
      ap (λ w. differ w (is (64 * word + b))) not_was ∙ not_is
  | inr clear ↦ differs b within (omega (arith, clear))
]

-- one more test of several is covered
pub cover-more : (tests : ℕ → ℕ → Bool) (k word bits more : ℕ) → ((m : ℕ) → m < k → Cover (tests m) word bits) → Cover (tests k) word more → (m : ℕ) → m < k + 1 → Cover (tests m) word (bit_or bits more)
cover-more tests k word bits more covers next =
    below_more (λ m. Cover (tests m) word (bit_or bits more)) k (λ m low. cover-first (tests m) word bits more (covers m low)) (cover-second (tests k) word bits more next)

-- A symbol that is looked at is a kept one; at any other no mask has a bit.
module _ (keeps test : ℕ → Bool) (word visits kept b : ℕ) (within : b < 64) (are : AreBits keeps word kept) where
  pub looked-visit : bit_at (bit_and visits kept) b ≡ 1 → bit_at visits b ≡ 1
  looked-visit is = omega (arith, is, bit_at_and visits kept b, bit_at-lt visits b, bit_at-lt kept b)

  pub looked-kept : bit_at (bit_and visits kept) b ≡ 1 → keeps (64 * word + b) ≡ true
  looked-kept is = by (keeps (64 * word + b)) refl
    where
      set : bit_at kept b ≡ 1
      set = omega (arith, is, bit_at_and visits kept b, bit_at-lt visits b, bit_at-lt kept b)

      by : (h : Bool) → keeps (64 * word + b) ≡ h → h ≡ true
      by true e = refl
      by false e = absurd (apart (are b within ∙ ap one_if e))
        where
          apart : bit_at kept b ≡ 0 → ⊥
          apart none = omega (arith, set, none)

  pub looked-past : bit_at (bit_and visits kept) b ≡ 0 → (keeps (64 * word + b) ≡ false → test (64 * word + b) ≡ false) → ((bit_at visits b == 1) && test (64 * word + b)) ≡ false
  looked-past none fails = by (keeps (64 * word + b)) refl
    where
      by : (h : Bool) → keeps (64 * word + b) ≡ h → ((bit_at visits b == 1) && test (64 * word + b)) ≡ false
      by false e = ap (λ x. (bit_at visits b == 1) && x) (fails e) ∙ and-false (bit_at visits b == 1)
      by true e =
          ap (λ x. x && test (64 * word + b))
          (ne_eqb (bit_at visits b) 1 (λ set. let one = are b within ∙ ap one_if e in omega (arith, none, bit_at_and visits kept b, set, one)))

-- ---- the next bit that is 1

module _ (bits from : ℕ) where
  shifted : (i : ℕ) → bit_at (bits / 2 ^ from) i ≡ bit_at bits (from + i)
  shifted i = ap (λ m. m % 2) (shr-shr bits from i)

  clear-at : (k : ℕ) → from ≤ k → bit_at (bits / 2 ^ from) (k - from) ≡ 0 → bit_at bits k ≡ 0
  clear-at k low none = let place : k ≡ from + (k - from) = omega (arith, low) in ap (bit_at bits) place ∙ sym (shifted (k - from)) ∙ none

  pub none-behind : bits / 2 ^ from ≡ 0 → (k : ℕ) → from ≤ k → bit_at bits k ≡ 0
  none-behind none k low = clear-at k low (ap (λ n. bit_at n (k - from)) none ∙ bit_at-zero (k - from))

  module _ (fits : bits < 2 ^ 64) (some : bits / 2 ^ from ≢ 0) where
    lowest : (trailing_zeros w64 (bits / 2 ^ from) < 64) × (bit_at (bits / 2 ^ from) (trailing_zeros w64 (bits / 2 ^ from)) ≡ 1)
        × ((i : ℕ) → i < trailing_zeros w64 (bits / 2 ^ from) → bit_at (bits / 2 ^ from) i ≡ 0)
    lowest = bit_at-trailing_zeros w64 (bits / 2 ^ from) (omega (arith, some)) (let less = div-le_self bits (2 ^ from) in omega (arith, less, fits))

    pub first-set : bit_at bits (from + trailing_zeros w64 (bits / 2 ^ from)) ≡ 1
    first-set = sym (shifted (trailing_zeros w64 (bits / 2 ^ from))) ∙ lowest.1

    pub first-within : from + trailing_zeros w64 (bits / 2 ^ from) < 64
    first-within = elim (cases_lt (from + trailing_zeros w64 (bits / 2 ^ from)) 64) [
      | inl low ↦ low
      | inr high ↦ let none = bit_at_above bits 64 (from + trailing_zeros w64 (bits / 2 ^ from)) fits high in absurd (omega (arith, none, first-set))
    ]

    pub first-clear : (k : ℕ) → from ≤ k → k < from + trailing_zeros w64 (bits / 2 ^ from) → bit_at bits k ≡ 0
    first-clear k low high = clear-at k low (lowest.2 (k - from) (omega (arith, low, high)))

-- numbers that don't pass a test are passed by
pub up_to-past : (p : ℕ → Bool) (from next : ℕ) → from ≤ next → ((k : ℕ) → from ≤ k → k < next → p k ≡ false) → (k : ℕ) → up_to p from k ≡ up_to p next k
up_to-past p from next on fails k = elim (cases_lt k from) [
  | inl low ↦ ap (λ b. b && p k) (lt-ltb k from low ∙ sym (lt-ltb k next (omega (arith, low, on))))
  | inr past ↦ elim (cases_lt k next) [
    | inl before ↦ ap (λ b. b && p k) (le-ltb k from past) ∙ sym (ap (λ b. b && p k) (lt-ltb k next before) ∙ fails k past before)
    | inr above ↦ ap (λ b. b && p k) (le-ltb k from past ∙ sym (le-ltb k next above))
  ]
]
