-- Counts that rise by as many as there are things of a kind.
use Rattle.std.proofs.Common.{◌≡◌, ◌≢◌, ◌⊎◌, ◌+◌, ◌-◌, ◌/◌, ◌%◌, ◌^◌, ◌<◌, ◌≤◌, ◌==◌, ◌&&◌, ℕ, zero, suc, Bool, true, false, cond, [], ◌∷◌, ◌++◌, map, get_or, min, count_ones, refl, sym, ap, subst, ◌∙◌, inl, inr, arith, true≢false, pow-suc, add-zero, zero-add}
use Rattle.std.specs.Int.{bit_at}
use Rattle.std.specs.Int.Count.{ones_step}
use Rattle.std.specs.List.{Contains}
use Rattle.std.proofs.lemmas.Bool.{cases_eq, cases_lt, eq-eqb, ne_eqb, eqb-true, le-ltb, lt-ltb}
use Rattle.std.proofs.lemmas.List.{length-append, length-map}
use Rattle.std.proofs.lemmas.List.Elements.{Contains-append_left, Contains-append_right, Contains-append_cases}
use Rattle.std.proofs.lemmas.Nat.{ones_le_self}
use Rattle.std.proofs.lemmas.Nat.Bits.{bit_at_lowest, bit_at-suc, bit_at-zero}
use Rattle.cil_sums.specs.Rises.{below, RisesBy}
use Rattle.cil_sums.proofs.PairLemmas.{from-mapped, mapped, pairs-append, pairs-map}

-- no number is below 0
pub no-less : (k : ℕ) → k < 0 → ⊥
no-less k less = omega (arith, less)

module _ {X : Type 0} where
  abbrev Apart : X → X → Type 0
  Apart x y = x ≢ y

  -- nothing passes
  pub rises-none : (p : X → Bool) (count : ℕ) → ((x : X) → p x ≡ false) → RisesBy p count count
  rises-none p count none = record {
    those = [];
    exact = λ x. ((λ at. absurd (no-less at.0 at.1)), λ is. absurd (true≢false (sym is ∙ none x)));
    once = λ i j d less within. absurd (no-less j within);
    at_most = omega arith;
    at_least = omega arith;
  }

  -- one thing passes
  pub rises-one : (p : X → Bool) (one : X) → p one ≡ true → ((x : X) → p x ≡ true → one ≡ x) → RisesBy p 0 1
  rises-one p one is only = record {
    those = one ∷ [];
    exact = λ x. ((λ at. subst (λ y. p y ≡ true) (first x at.0 at.1 ∙ at.2) is), λ passes. (0, omega arith, only x passes));
    once = λ i j d less within. absurd (omega (arith, less, within));
    at_most = omega arith;
    at_least = omega arith;
  }
    where
      first : (x : X) (k : ℕ) → k < 1 → one ≡ get_or (one ∷ []) k x
      first x zero within = refl
      first x (suc k) within = absurd (omega (arith, within))

  -- the same passes
  pub rises-same : (p q : X → Bool) (before after : ℕ) → ((x : X) → p x ≡ q x) → RisesBy p before after → RisesBy q before after
  rises-same p q before after same rises = record {
    those = rises.those;
    exact = λ x. ((λ at. sym (same x) ∙ (rises.exact x).0 at), λ passes. (rises.exact x).1 (same x ∙ passes));
    once = rises.once;
    at_most = rises.at_most;
    at_least = rises.at_least;
  }

  -- a count that rises so from 0 tells how far another rises that it is added to
  pub rises-added : (p : X → Bool) (before some after : ℕ) → RisesBy p 0 some → after ≤ before + some → min (before + some) (2 ^ 128 - 1) ≤ after → RisesBy p before after
  rises-added p before some after rises most least = record {
    those = rises.those;
    exact = rises.exact;
    once = rises.once;
    at_most = omega (arith, rises.at_most, most);
    at_least = omega (arith, rises.at_least, least);
  }

  -- What passes either of two tests rises by both, where nothing passes both.
  module _ (p q r : X → Bool) (joined : (x : X) → cond (p x) 1 0 + cond (q x) 1 0 ≡ cond (r x) 1 0) where
    of-first : (a b c : Bool) → cond a 1 0 + cond b 1 0 ≡ cond c 1 0 → a ≡ true → c ≡ true
    of-first true b true sum is = refl
    of-first true b false sum is = absurd (omega (arith, sum))
    of-first false b c sum is = absurd (true≢false (sym is))

    of-second : (a b c : Bool) → cond a 1 0 + cond b 1 0 ≡ cond c 1 0 → b ≡ true → c ≡ true
    of-second a true true sum is = refl
    of-second a true false sum is = absurd (omega (arith, sum))
    of-second a false c sum is = absurd (true≢false (sym is))

    of-either : (a b c : Bool) → cond a 1 0 + cond b 1 0 ≡ cond c 1 0 → c ≡ true → (a ≡ true) ⊎ (b ≡ true)
    of-either true b c sum is = inl refl
    of-either false true c sum is = inr refl
    of-either false false true sum is = absurd (omega (arith, sum))
    of-either false false false sum is = absurd (true≢false (sym is))

    not-both : (a b c : Bool) → cond a 1 0 + cond b 1 0 ≡ cond c 1 0 → a ≡ true → b ≡ true → ⊥
    not-both true true true sum a_is b_is = omega (arith, sum)
    not-both true true false sum a_is b_is = omega (arith, sum)
    not-both false b c sum a_is b_is = true≢false (sym a_is)
    not-both a false c sum a_is b_is = true≢false (sym b_is)

    pub rises-both : (before between after : ℕ) → RisesBy p before between → RisesBy q between after → RisesBy r before after
    rises-both before between after first second =
        let long = length-append first.those second.those in
        record {
          those = first.those ++ second.those;
          exact = λ x. (
            (λ at. elim (Contains-append_cases first.those second.those x at) [
              | inl one ↦ of-first (p x) (q x) (r x) (joined x) ((first.exact x).0 one)
              | inr other ↦ of-second (p x) (q x) (r x) (joined x) ((second.exact x).0 other)
            ]),
            λ passes. elim (of-either (p x) (q x) (r x) (joined x) passes) [
              | inl one ↦ Contains-append_left first.those second.those x ((first.exact x).1 one)
              | inr other ↦ Contains-append_right first.those second.those x ((second.exact x).1 other)
            ],
          );
          once = pairs-append Apart first.those second.those first.once second.once
              (λ x y one other same. not-both (p y) (q y) (r y) (joined y) ((first.exact y).0 (subst (Contains first.those) same one)) ((second.exact y).0 other));
          at_most = omega (arith, long, first.at_most, second.at_most);
          at_least = omega (arith, long, first.at_least, second.at_least);
        }

    -- the same where the second is counted from 0 and added
    pub rises-more : (before between some after : ℕ) → RisesBy p before between → RisesBy q 0 some → after ≡ min (between + some) (2 ^ 128 - 1) → RisesBy r before after
    rises-more before between some after first second sum = rises-both before between after first (rises-added q between some after second (omega (arith, sum)) (omega (arith, sum)))

abbrev counted : Bool → ℕ
counted a = cond a 1 0

-- two tests that count the same are the same
pub same-from_counts : (a b : Bool) → counted a ≡ counted b → a ≡ b
same-from_counts true true same = refl
same-from_counts true false same = absurd (omega (arith, same))
same-from_counts false true same = absurd (omega (arith, same))
same-from_counts false false same = refl

-- Things that stand for those that pass, each for one, are as many.
module _ {X Y : Type 0} (f : X → Y) (p : X → Bool) (q : Y → Bool) (alone : (a b : X) → p a ≡ true → p b ≡ true → f a ≡ f b → a ≡ b) (there : (x : X) → p x ≡ true → q (f x) ≡ true)
    (back : (y : Y) → q y ≡ true → (x : X) × (p x ≡ true) × (f x ≡ y)) where
  pub rises-stand : (before after : ℕ) → RisesBy p before after → RisesBy q before after
  rises-stand before after rises =
      let long = length-map rises.those f in
      record {
        those = map f rises.those;
        exact = λ y. (
          (λ at. let x = from-mapped f rises.those y at in subst (λ z. q z ≡ true) x.2 (there x.0 ((rises.exact x.0).0 x.1))),
          λ passes. let x = back y passes in subst (Contains (map f rises.those)) x.2 (mapped f rises.those x.0 ((rises.exact x.0).1 x.1)),
        );
        once = pairs-map f (λ a b. a ≢ b) rises.those rises.once (λ a b one other apart same. apart (alone a b ((rises.exact a).0 one) ((rises.exact b).0 other) same));
        at_most = omega (arith, long, rises.at_most);
        at_least = omega (arith, long, rises.at_least);
      }

-- The same where each stands for one, whether it passes or not.
module _ {X Y : Type 0} (f : X → Y) (injective : (a b : X) → f a ≡ f b → a ≡ b) (p : X → Bool) (q : Y → Bool) (there : (x : X) → p x ≡ true → q (f x) ≡ true) (back : (y : Y) → q y ≡ true → (x : X) × (p x ≡ true) × (f x ≡ y)) where
  pub rises-map : (before after : ℕ) → RisesBy p before after → RisesBy q before after
  rises-map = rises-stand f p q (λ a b one other same. injective a b same) there back

-- A count that rises number by number.
module _ {X : Type 0} (test : ℕ → X → Bool) where
  pub rises-first : (count : ℕ) → RisesBy (below test 0) count count
  rises-first count = rises-none (below test 0) count (λ p. ap (λ b. b && test p.0 p.1) (le-ltb p.0 0 (omega arith)))

  pub rises-next : (i before between after : ℕ) → RisesBy (below test i) before between → RisesBy (test i) between after → RisesBy (below test (i + 1)) before after
  rises-next i before between after first second =
      rises-both (below test i) own (below test (i + 1)) joined before between after first
      (rises-map (λ x. (i, x)) (λ a b same. ap (λ p. p.1) same) (test i) own (λ x is. ap (λ b. b && test i x) (eq-eqb i i refl) ∙ is) back between after second)
    where
      own : ℕ × X → Bool
      own p = (i == p.0) && test p.0 p.1

      back : (p : ℕ × X) → own p ≡ true → (x : X) × (test i x ≡ true) × ((i, x) ≡ p)
      back p is = by (i == p.0) refl is
        where
          by : (b : Bool) → (i == p.0) ≡ b → (b && test p.0 p.1) ≡ true → (x : X) × (test i x ≡ true) × ((i, x) ≡ p)
          by true same passes = let e = eqb-true i p.0 same in (p.1, ap (λ n. test n p.1) e ∙ passes, λ k. (e k, p.1))
          by false other passes = absurd (true≢false (sym passes))

      joined : (p : ℕ × X) → cond (below test i p) 1 0 + cond (own p) 1 0 ≡ cond (below test (i + 1) p) 1 0
      joined p =
          elim (cases_eq i p.0) [
            | inl same ↦
                ap (λ b. cond (b && test p.0 p.1) 1 0 + cond (own p) 1 0) (le-ltb p.0 i (omega (arith, same)))
                ∙ zero-add (cond (own p) 1 0) ∙ ap (λ b. cond (b && test p.0 p.1) 1 0) (eq-eqb i p.0 same ∙ sym (lt-ltb p.0 (i + 1) (omega (arith, same))))
            | inr other ↦
                ap (λ b. cond (below test i p) 1 0 + cond (b && test p.0 p.1) 1 0) (ne_eqb i p.0 other)
                ∙ add-zero (cond (below test i p) 1 0)
                ∙ elim (cases_lt p.0 i) [
                  | inl before_it ↦ ap (λ b. cond (b && test p.0 p.1) 1 0) (lt-ltb p.0 i before_it ∙ sym (lt-ltb p.0 (i + 1) (omega (arith, before_it))))
                  | inr past ↦ ap (λ b. cond (b && test p.0 p.1) 1 0) (le-ltb p.0 i past ∙ sym (le-ltb p.0 (i + 1) (omega (arith, past, other))))
                ]
          ]

-- The bits of a number are as many as are counted.
abbrev lowest : ℕ → ℕ → Bool
lowest mask zero = bit_at mask 0 == 1
lowest mask (suc b) = false

abbrev higher : ℕ → ℕ → Bool
higher mask zero = false
higher mask (suc b) = bit_at mask (suc b) == 1

pub rises-bits : (k mask : ℕ) → mask < 2 ^ k → RisesBy (λ b. bit_at mask b == 1) 0 (count_ones mask)
rises-bits zero mask fits =
    let no_mask : mask ≡ 0 = omega (arith, fits) in
    let no_ones : 0 ≡ count_ones mask = omega (arith, ones_le_self mask, no_mask) in
    subst (RisesBy (λ b. bit_at mask b == 1) 0) no_ones (rises-none (λ b. bit_at mask b == 1) 0 (λ b. ap (λ n. bit_at n b == 1) no_mask ∙ ap (λ n. n == 1) (bit_at-zero b)))
rises-bits (suc k) mask fits =
    let half : RisesBy (λ b. bit_at (mask / 2) b == 1) 0 (count_ones (mask / 2)) = rises-bits k (mask / 2) (omega (arith, fits, pow-suc 2 k)) in
    let ones = ones_step mask in
    let above : RisesBy (higher mask) (mask % 2) (count_ones mask) = rises-added (higher mask) (mask % 2) (count_ones (mask / 2)) (count_ones mask)
    (rises-map suc (λ a b same. omega (arith, same)) (λ b. bit_at (mask / 2) b == 1) (higher mask) (λ b is. ap (λ n. n == 1) (bit_at-suc mask b) ∙ is) back 0 (count_ones (mask / 2)) half)
    (omega (arith, ones)) (omega (arith, ones)) in
    rises-both (lowest mask) (higher mask) (λ b. bit_at mask b == 1) joined 0 (mask % 2) (count_ones mask) (first (mask % 2) (omega arith) refl) above
  where
    back : (b : ℕ) → higher mask b ≡ true → (a : ℕ) × ((bit_at (mask / 2) a == 1) ≡ true) × (suc a ≡ b)
    back zero is = absurd (true≢false (sym is))
    back (suc b) is = (b, sym (ap (λ n. n == 1) (bit_at-suc mask b)) ∙ is, refl)

    joined : (b : ℕ) → cond (lowest mask b) 1 0 + cond (higher mask b) 1 0 ≡ cond (bit_at mask b == 1) 1 0
    joined zero = add-zero (cond (bit_at mask 0 == 1) 1 0)
    joined (suc b) = zero-add (cond (bit_at mask (suc b) == 1) 1 0)

    lowest-is : (n : ℕ) → mask % 2 ≡ n → (bit_at mask 0 == 1) ≡ (n == 1)
    lowest-is n is = ap (λ m. m == 1) (bit_at_lowest mask ∙ is)

    first : (n : ℕ) → n < 2 → mask % 2 ≡ n → RisesBy (lowest mask) 0 n
    first zero small is = rises-none (lowest mask) 0 none
      where
        none : (b : ℕ) → lowest mask b ≡ false
        none zero = lowest-is 0 is
        none (suc b) = refl
    first (suc zero) small is = rises-one (lowest mask) 0 (lowest-is 1 is) only
      where
        only : (b : ℕ) → lowest mask b ≡ true → 0 ≡ b
        only zero passes = refl
        only (suc b) passes = absurd (true≢false (sym passes))
    first (suc (suc n)) small is = absurd (omega (arith, small))
