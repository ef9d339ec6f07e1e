-- Words of 64 bits that tell numbers.
use Rattle.cil_violations.proofs.Common.{◌≡◌, ◌∙◌, ℕ, ◌+◌, ◌*◌, ◌/◌, ◌%◌, ◌^◌, ◌<◌, ◌≤◌, ◌==◌, ◌&&◌, Bool, false, IsTrue, min, zero, suc, bit_and, w64, refl, sym, ap, inl, inr, arith, cases_eq, eq-eqb, ne_eqb, IsFirstWordFrom, IsWordOf}
use Rattle.std.specs.Int.{bit_at, trailing_zeros}
use Rattle.std.proofs.lemmas.Nat.{one_shl}
use Rattle.std.proofs.lemmas.Nat.Bits.{bit_at-lt, bit_at-pow_other, bit_at-pow_same, bit_at-trailing_zeros, bit_at-zero, bit_at_and}

-- the word of one number
pub word-of-one : (n index : ℕ) → n / 64 ≡ index → IsWordOf (λ t. n == t) index (1 * 2 ^ (n % 64) % 2 ^ 64)
word-of-one n index at b small =
    ap (λ word. bit_at word b == 1) (let within : n % 64 < 64 = omega arith in one_shl (n % 64) 64 within)
    ∙ elim (cases_eq b (n % 64)) as (λ _. (bit_at (2 ^ (n % 64)) b == 1) ≡ (n == (64 * index + b))) [
      | inl same ↦
          ap (λ i. bit_at (2 ^ (n % 64)) i == 1) same ∙ ap (λ x. x == 1) (bit_at-pow_same (n % 64))
          ∙ sym (eq-eqb n (64 * index + b) (omega arith))
      | inr apart ↦
          ap (λ x. x == 1) (bit_at-pow_other (n % 64) b apart)
          ∙ sym (ne_eqb n (64 * index + b) (λ e. apart (omega arith)))
    ]

-- the bits that two words have
pub word-both : (p q : ℕ → Bool) (index one other : ℕ) → IsWordOf p index one → IsWordOf q index other
    → IsWordOf (λ t. p t && q t) index (bit_and one other)
word-both p q index one other first second b small =
    ap (λ n. n == 1) (bit_at_and one other b) ∙ least (bit_at one b) (bit_at other b) (bit_at-lt one b)
    (bit_at-lt other b)
    ∙ (λ i. first b small i && second b small i)
  where
    least : (x y : ℕ) → x < 2 → y < 2 → (min x y == 1) ≡ ((x == 1) && (y == 1))
    least zero y low high = let none : min zero y ≡ 0 = omega arith in ap (λ n. n == 1) none
    least (suc zero) zero low high = refl
    least (suc zero) (suc zero) low high = refl
    least (suc zero) (suc (suc y)) low high = absurd (omega (arith, high))
    least (suc (suc x)) y low high = absurd (omega (arith, low))

module _ (test : ℕ → Bool) (index word : ℕ) (is : IsWordOf test index word) where
  -- a word that isn't 0 has a number
  pub word-some : 0 < word → word < 2 ^ 64 → (n : ℕ) × (n / 64 ≡ index) × IsTrue (test n)
  word-some some fits =
      let lowest = bit_at-trailing_zeros w64 word some fits in
      let b : ℕ = trailing_zeros w64 word in
      let small : b < 64 = lowest.0 in
      (64 * index + b, omega (arith, small), sym (is b small) ∙ ap (λ n. n == 1) lowest.1)

  -- one that is 0 has none
  pub word-none : word ≡ 0 → (n : ℕ) → n / 64 ≡ index → test n ≡ false
  word-none clear n at =
      ap test (omega (arith, at)) ∙ sym (is (n % 64) (omega arith)) ∙ ap (λ w. bit_at w (n % 64) == 1) clear
      ∙ ap (λ x. x == 1) (bit_at-zero (n % 64))

module _ (p q : ℕ → Bool) (start : ℕ) where
  -- no number of the words from the start up to one has both tests
  abbrev pub NoneBefore : ℕ → Type 0
  NoneBefore from = (n : ℕ) → start ≤ n / 64 → n / 64 < from → (p n && q n) ≡ false

  -- the words that the first test skips have none
  pub first-skips : (from word : ℕ) → NoneBefore from → IsFirstWordFrom p from word → NoneBefore word
  first-skips from word none first n above below = grind (arith, none n, first.before n)

  -- nor has a word without a bit
  pub word-skipped : (word bits : ℕ) → NoneBefore word → IsWordOf (λ n. p n && q n) word bits → bits ≡ 0
      → NoneBefore (word + 1)
  word-skipped word bits none is clear n above below = grind (arith, none n, word-none (λ t. p t && q t) word bits is clear n)
