-- Where a set statement is evaluated: at bits of a word, at the symbols of words, and why.
use Rattle.cil_member_updates.proofs.Common.{◌≡◌, ◌⊎◌, ◌==◌, ◌+◌, ◌*◌, ◌/◌, ◌%◌, ◌<◌, ◌&&◌, ◌||◌, ℕ, Bool, true, false, List, length, bit_and, nat_lt, refl, sym, ap, ◌∙◌, subst, inl, inr, arith, bit_at, cases_eq, cases_lt, eq-eqb, eqb-true, ltb-true, lt-ltb, bit_at_and, bit_at-lt, bit_at-zero, slice_get_past, Meaning, SetStatement, differ, one_if, up_to, RisesBy, RisesWithin, up_to-some, within-both, within-by, within-either, within-map, within-none, within-weaker, AreBits, Cover, is_asked, InWord, holds}
use Rattle.std.proofs.Common.{true≢false}
use Rattle.cil_member_updates.proofs.NameLemmas.{holds-past}

pub both-true : (a b : Bool) → (a && b) ≡ true → (a ≡ true) × (b ≡ true)
both-true true b is = (refl, is)
both-true false b is = absurd (true≢false (sym is))

pub either-true : (a b : Bool) → (a || b) ≡ true → (a ≡ true) ⊎ (b ≡ true)
either-true true b is = inl refl
either-true false b is = inr is

pub first-true : (a b : Bool) → a ≡ true → (a || b) ≡ true
first-true true b is = refl
first-true false b is = absurd (true≢false (sym is))

pub second-true : (a b : Bool) → b ≡ true → (a || b) ≡ true
second-true true b is = refl
second-true false b is = is

-- of the first 64 numbers, those that pass
module _ (p : ℕ → Bool) where
  low-passes : (b : ℕ) → up_to p 64 b ≡ true → (b < 64) × (p b ≡ true)
  low-passes b is = let both = both-true (nat_lt b 64) (p b) is in (ltb-true b 64 both.0, both.1)

  passes-low : (b : ℕ) → b < 64 → p b ≡ true → up_to p 64 b ≡ true
  passes-low b low is = ap (λ x. x && p b) (lt-ltb b 64 low) ∙ is

-- ---- the bits of a word

module _ (word visits : ℕ) where
  bit-keeps : (keeps : ℕ → Bool) (kept : ℕ) → AreBits keeps word kept → (b : ℕ) → b < 64 → bit_at kept b ≡ 1 → keeps (64 * word + b) ≡ true
  bit-keeps keeps kept are b within set = by (keeps (64 * word + b)) refl
    where
      by : (h : Bool) → keeps (64 * word + b) ≡ h → h ≡ true
      by true e = refl
      by false e = absurd (let none = are b within ∙ ap one_if e in omega (arith, none, set))

  keeps-bit : (keeps : ℕ → Bool) (kept : ℕ) → AreBits keeps word kept → (b : ℕ) → b < 64 → keeps (64 * word + b) ≡ true → bit_at kept b ≡ 1
  keeps-bit keeps kept are b within is = are b within ∙ ap one_if is

  -- where a test holds the bit is visited
  held-visit : (test : ℕ → Bool) → Cover test word visits → (b : ℕ) → b < 64 → test (64 * word + b) ≡ true → bit_at visits b ≡ 1
  held-visit test covers b within holds =
      elim (cases_eq (bit_at visits b) 1) [
        | inl set ↦ set
        | inr clear ↦ absurd (true≢false (sym holds ∙ covers b within (let low = bit_at-lt visits b in omega (arith, low, clear))))
      ]

  -- what is asked is visited and kept
  asked-bits : (kept b : ℕ) → is_asked visits kept b ≡ true → (b < 64) × (bit_at visits b ≡ 1) × (bit_at kept b ≡ 1)
  asked-bits kept b is =
      let (low, both) = low-passes (λ k. bit_at (bit_and visits kept) k == 1) b is in
      let one = eqb-true (bit_at (bit_and visits kept) b) 1 both in
      let of = bit_at_and visits kept b in
      let v = bit_at-lt visits b in
      let k = bit_at-lt kept b in
      (low, omega (arith, one, of, v, k), omega (arith, one, of, v, k))

  bits-asked : (kept b : ℕ) → b < 64 → bit_at visits b ≡ 1 → bit_at kept b ≡ 1 → is_asked visits kept b ≡ true
  bits-asked kept b low visit keep = passes-low (λ k. bit_at (bit_and visits kept) k == 1) b low (eq-eqb (bit_at (bit_and visits kept) b) 1 (let of = bit_at_and visits kept b in omega (arith, of, visit, keep)))

  -- a bit of the word and its symbol
  module _ (P : ℕ → Type 0) where
    abbrev AtBit : ℕ → Type 0
    AtBit b = (b < 64) × P (64 * word + b)

    symbol-of-bit : (b : ℕ) → AtBit b → InWord word P (64 * word + b)
    symbol-of-bit b at = (let low = at.0 in omega (arith, low), at.1)

    bit-of-symbol : (t : ℕ) → InWord word P t → (b : ℕ) × AtBit b × (64 * word + b ≡ t)
    bit-of-symbol t at =
        let here = at.0 in
        let is : 64 * word + t % 64 ≡ t = omega (arith, here) in
        (t % 64, (omega arith, subst P (sym is) at.1), is)

  one-symbol : (a b : ℕ) → 64 * word + a ≡ 64 * word + b → a ≡ b
  one-symbol a b same = omega (arith, same)

  of-bits : (May Must : ℕ → Type 0) (before after : ℕ) → RisesWithin (AtBit May) (AtBit Must) before after → RisesWithin (InWord word May) (InWord word Must) before after
  of-bits May Must before after rises = within-map (λ b. 64 * word + b) one-symbol (AtBit May) (AtBit Must) (InWord word May) (InWord word Must) (symbol-of-bit May) (bit-of-symbol Must) before after rises

  -- a set statement of one policy
  pub word-once : (keeps test : ℕ → Bool) (kept before after : ℕ) → AreBits keeps word kept → Cover test word visits → ((t : ℕ) → test t ≡ true → keeps t ≡ true) → RisesBy (is_asked visits kept) before after
      → RisesWithin (InWord word (λ t. keeps t ≡ true)) (InWord word (λ t. test t ≡ true)) before after
  word-once keeps test kept before after are covers within rises =
      of-bits (λ t. keeps t ≡ true) (λ t. test t ≡ true) before after
      (within-by (is_asked visits kept) (AtBit (λ t. keeps t ≡ true)) (AtBit (λ t. test t ≡ true)) before after
      (λ b is. let at = asked-bits kept b is in (at.0, bit-keeps keeps kept are b at.0 at.2))
      (λ b must. bits-asked kept b must.0 (held-visit test covers b must.0 must.1) (keeps-bit keeps kept are b must.0 (within (64 * word + b) must.1))) rises)

  -- nothing to visit
  pub word-none : (May : ℕ → Type 0) (test : ℕ → Bool) (count : ℕ) → Cover test word visits → visits ≡ 0 → RisesWithin (InWord word May) (InWord word (λ t. test t ≡ true)) count count
  word-none May test count covers none = within-none (InWord word May) (InWord word (λ t. test t ≡ true)) count (λ t must.
      let (b, at, same) = bit-of-symbol (λ t. test t ≡ true) t must in
      let set = held-visit test covers b at.0 at.1 in
      let clear = ap (λ v. bit_at v b) none ∙ bit_at-zero b in
      omega (arith, set, clear))

  -- one of two policies, asked of the one and of the other
  pub word-twice : (was is keeps_old keeps_new : ℕ → Bool) (May : ℕ → Type 0) (kept_old kept_new before between after : ℕ) → AreBits keeps_old word kept_old → AreBits keeps_new word kept_new → Cover (λ t. differ (was t) (is t)) word visits
      → ((t : ℕ) → was t ≡ true → keeps_old t ≡ true) → ((t : ℕ) → is t ≡ true → keeps_new t ≡ true)
      → ((b : ℕ) → b < 64 → bit_at visits b ≡ 1 → (keeps_old (64 * word + b) || keeps_new (64 * word + b)) ≡ true → May (64 * word + b))
      → RisesBy (is_asked visits kept_old) before between → RisesBy (is_asked visits kept_new) between after → RisesWithin (InWord word May) (InWord word (λ t. differ (was t) (is t) ≡ true)) before after
  word-twice was is keeps_old keeps_new May kept_old kept_new before between after are_old are_new covers was_kept is_kept may first second =
      of-bits May (λ t. differ (was t) (is t) ≡ true) before after
      (within-either (is_asked visits kept_old) (is_asked visits kept_new) (up_to either 64) (AtBit May) (AtBit (λ t. differ (was t) (is t) ≡ true)) before between after some.0 first second some.1
      (λ b asked. let at = asked-bits kept_old b asked in passes-low either b at.0 (both-is (bit_at visits b == 1) _ (eq-eqb (bit_at visits b) 1 at.1) (first-true (bit_at kept_old b == 1) (bit_at kept_new b == 1) (eq-eqb (bit_at kept_old b) 1 at.2))))
      (λ b asked. let at = asked-bits kept_new b asked in passes-low either b at.0 (both-is (bit_at visits b == 1) _ (eq-eqb (bit_at visits b) 1 at.1) (second-true (bit_at kept_old b == 1) (bit_at kept_new b == 1) (eq-eqb (bit_at kept_new b) 1 at.2))))
      (λ b passes.
      let at = parts b passes in
      elim at.2 [
        | inl old ↦ inl (bits-asked kept_old b at.0 at.1 old)
        | inr new ↦ inr (bits-asked kept_new b at.0 at.1 new)
      ])
      (λ b passes.
      let at = parts b passes in (
        at.0,
        may b at.0 at.1 (elim at.2 [
          | inl old ↦ first-true (keeps_old (64 * word + b)) (keeps_new (64 * word + b)) (bit-keeps keeps_old kept_old are_old b at.0 old)
          | inr new ↦ second-true (keeps_old (64 * word + b)) (keeps_new (64 * word + b)) (bit-keeps keeps_new kept_new are_new b at.0 new)
        ]),
      ))
      (λ b must.
      passes-low either b must.0 (both-is (bit_at visits b == 1) _ (eq-eqb (bit_at visits b) 1 (held-visit (λ t. differ (was t) (is t)) covers b must.0 must.1)) (kept-either b must.0 must.1))))
    where
      both-is : (a b : Bool) → a ≡ true → b ≡ true → (a && b) ≡ true
      both-is true b a_is b_is = b_is
      both-is false b a_is b_is = absurd (true≢false (sym a_is))

      either : ℕ → Bool
      either b = (bit_at visits b == 1) && ((bit_at kept_old b == 1) || (bit_at kept_new b == 1))

      some : (n : ℕ) × RisesBy (up_to either 64) 0 n
      some = up_to-some either 64

      parts : (b : ℕ) → up_to either 64 b ≡ true → (b < 64) × (bit_at visits b ≡ 1) × ((bit_at kept_old b ≡ 1) ⊎ (bit_at kept_new b ≡ 1))
      parts b passes =
          let (low, is_either) = low-passes either b passes in
          let both = both-true (bit_at visits b == 1) _ is_either in (
            low,
            eqb-true (bit_at visits b) 1 both.0,
            elim (either-true (bit_at kept_old b == 1) (bit_at kept_new b == 1) both.1) [
              | inl old ↦ inl (eqb-true (bit_at kept_old b) 1 old)
              | inr new ↦ inr (eqb-true (bit_at kept_new b) 1 new)
            ],
          )

      one-holds : (p q : Bool) → differ p q ≡ true → (p ≡ true) ⊎ (q ≡ true)
      one-holds true q e = inl refl
      one-holds false q e = inr e

      kept-either : (b : ℕ) → b < 64 → differ (was (64 * word + b)) (is (64 * word + b)) ≡ true → ((bit_at kept_old b == 1) || (bit_at kept_new b == 1)) ≡ true
      kept-either b low e =
          elim (one-holds (was (64 * word + b)) (is (64 * word + b)) e) [
            | inl old ↦ first-true (bit_at kept_old b == 1) (bit_at kept_new b == 1) (eq-eqb (bit_at kept_old b) 1 (keeps-bit keeps_old kept_old are_old b low (was_kept (64 * word + b) old)))
            | inr new ↦ second-true (bit_at kept_old b == 1) (bit_at kept_new b == 1) (eq-eqb (bit_at kept_new b) 1 (keeps-bit keeps_new kept_new are_new b low (is_kept (64 * word + b) new)))
          ]

-- ---- word by word

-- at the symbols of the words below one
abbrev pub Beneath : ℕ → (ℕ → Type 0) → ℕ → Type 0
Beneath word P t = (t / 64 < word) × P t

module _ (May Must : ℕ → Type 0) where
  -- in the first words nothing has to be asked
  pub words-from : (word count : ℕ) → ((t : ℕ) → t / 64 < word → Must t → ⊥) → RisesWithin (Beneath word May) (Beneath word Must) count count
  words-from word count none = within-none (Beneath word May) (Beneath word Must) count (λ t must. none t must.0 must.1)

  pub words-next : (word before between after : ℕ) → RisesWithin (Beneath word May) (Beneath word Must) before between → RisesWithin (InWord word May) (InWord word Must) between after
      → RisesWithin (Beneath (word + 1) May) (Beneath (word + 1) Must) before after
  words-next word before between after first second =
      within-both (Beneath word May) (Beneath word Must) (InWord word May) (InWord word Must) (Beneath (word + 1) May) (Beneath (word + 1) Must)
      (λ t may. (let low = may.0 in omega (arith, low), may.1)) (λ t may. (let here = may.0 in omega (arith, here), may.1)) either
      (λ t one other. let low = one.0 in let here = other.0 in omega (arith, low, here)) before between after first second
    where
      either : (t : ℕ) → Beneath (word + 1) Must t → Beneath word Must t ⊎ InWord word Must t
      either t must =
          elim (cases_lt (t / 64) word) [
            | inl low ↦ inl (low, must.1)
            | inr high ↦ inr (let less = must.0 in omega (arith, less, high), must.1)
          ]

  pub words-all : (word before after : ℕ) → ((t : ℕ) → Must t → t / 64 < word) → RisesWithin (Beneath word May) (Beneath word Must) before after → RisesWithin May Must before after
  words-all word before after low rises = within-weaker (Beneath word May) (Beneath word Must) May Must before after (λ t may. may.1) (λ t must. (low t must, must)) rises

-- ---- what is held has a name

module _ (symbols : List (List ℕ)) where
  pub holds-within : (meaning : Meaning) (s : SetStatement) (t : ℕ) → holds symbols meaning s t ≡ true → t < length symbols
  holds-within meaning s t is =
      elim (cases_lt t (length symbols)) [
        | inl low ↦ low
        | inr past ↦ absurd (true≢false (sym is ∙ holds-past symbols meaning s t (slice_get_past symbols t past)))
      ]

  pub moved-within : (old new : Meaning) (s r : SetStatement) (t : ℕ) → differ (holds symbols old s t) (holds symbols new r t) ≡ true → t < length symbols
  moved-within old new s r t is = by (holds symbols old s t) refl is
    where
      by : (h : Bool) → holds symbols old s t ≡ h → differ h (holds symbols new r t) ≡ true → t < length symbols
      by true e d = holds-within old s t e
      by false e d = holds-within new r t d
