-- Counts that rise by one or two for each of some things.
use Rattle.std.proofs.Common.{◌≡◌, ◌≢◌, ◌⊎◌, ◌+◌, ◌-◌, ◌^◌, ◌<◌, ◌==◌, ◌&&◌, ℕ, zero, suc, Bool, true, false, cond, [], ◌++◌, map, min, refl, sym, ap, subst, ◌∙◌, inl, inr, arith, add-one, add-zero}
use Rattle.std.specs.List.{Contains}
use Rattle.std.proofs.lemmas.Bool.{cases_eq, cases_lt, eq-eqb, ne_eqb, eqb-true, le-ltb, lt-ltb}
use Rattle.std.proofs.lemmas.List.{length-append, length-map}
use Rattle.std.proofs.lemmas.List.Elements.{Contains-append_left, Contains-append_right, Contains-append_cases}
use Rattle.cil_sums.specs.Rises.{up_to, RisesBy, RisesWithin, UpTo}
use Rattle.cil_sums.proofs.PairLemmas.{at-most-all, from-mapped, mapped, pairs-append, pairs-map}
use Rattle.cil_sums.proofs.RiseLemmas.{no-less, rises-more, rises-none, rises-one, rises-same}

module _ {X : Type 0} where
  -- nothing must
  pub within-none : (May Must : X → Type 0) (count : ℕ) → ((x : X) → Must x → ⊥) → RisesWithin May Must count count
  within-none May Must count none = record {
    those = [];
    each = λ x at. absurd (no-less at.0 at.1);
    all = λ x must. absurd (none x must);
    once = λ i j d less within. absurd (no-less j within);
    at_most = omega arith;
    at_least = omega arith;
  }

  -- what may by one test may by another, and what must by the other must by the one
  pub within-weaker : (May Must More Less : X → Type 0) (before after : ℕ) → ((x : X) → May x → More x) → ((x : X) → Less x → Must x) → RisesWithin May Must before after → RisesWithin More Less before after
  within-weaker May Must More Less before after more less rises = record {
    those = rises.those;
    each = λ x at. more x (rises.each x at);
    all = λ x must. rises.all x (less x must);
    once = rises.once;
    at_most = rises.at_most;
    at_least = rises.at_least;
  }

  -- a count that rises by one for each
  pub within-by : (p : X → Bool) (May Must : X → Type 0) (before after : ℕ) → ((x : X) → p x ≡ true → May x) → ((x : X) → Must x → p x ≡ true) → RisesBy p before after → RisesWithin May Must before after
  within-by p May Must before after may must rises = record {
    those = rises.those;
    each = λ x at. may x ((rises.exact x).0 at);
    all = λ x is. (rises.exact x).1 (must x is);
    once = rises.once;
    at_most = omega (arith, rises.at_most);
    at_least = rises.at_least;
  }

  -- two that do, one behind the other, of what passes either test
  pub within-either : (p q r : X → Bool) (May Must : X → Type 0) (before between after some : ℕ) → RisesBy p before between → RisesBy q between after → RisesBy r 0 some
      → ((x : X) → p x ≡ true → r x ≡ true) → ((x : X) → q x ≡ true → r x ≡ true) → ((x : X) → r x ≡ true → (p x ≡ true) ⊎ (q x ≡ true))
      → ((x : X) → r x ≡ true → May x) → ((x : X) → Must x → r x ≡ true) → RisesWithin May Must before after
  within-either p q r May Must before between after some first second both of_first of_second of_either may must =
      let few = at-most-all first.those both.those first.once (λ x at. (both.exact x).1 (of_first x ((first.exact x).0 at))) in
      let few_too = at-most-all second.those both.those second.once (λ x at. (both.exact x).1 (of_second x ((second.exact x).0 at))) in
      let many = at-most-all both.those (first.those ++ second.those) both.once (λ x at.
      elim (of_either x ((both.exact x).0 at)) [
        | inl one ↦ Contains-append_left first.those second.those x ((first.exact x).1 one)
        | inr other ↦ Contains-append_right first.those second.those x ((second.exact x).1 other)
      ]) in
      record {
        those = both.those;
        each = λ x at. may x ((both.exact x).0 at);
        all = λ x is. (both.exact x).1 (must x is);
        once = both.once;
        at_most = omega (arith, few, few_too, first.at_most, second.at_most);
        at_least = omega (arith, many, length-append first.those second.those, first.at_least, second.at_least);
      }

  -- one behind the other, of things apart
  module _ (MayFirst MustFirst MaySecond MustSecond May Must : X → Type 0) (of_first : (x : X) → MayFirst x → May x) (of_second : (x : X) → MaySecond x → May x) (of_either : (x : X) → Must x → MustFirst x ⊎ MustSecond x)
      (apart : (x : X) → MayFirst x → MaySecond x → ⊥) where
    pub within-both : (before between after : ℕ) → RisesWithin MayFirst MustFirst before between → RisesWithin MaySecond MustSecond between after → RisesWithin May Must before after
    within-both before between after first second =
        let long = length-append first.those second.those in
        record {
          those = first.those ++ second.those;
          each = λ x at. elim (Contains-append_cases first.those second.those x at) [
            | inl one ↦ of_first x (first.each x one)
            | inr other ↦ of_second x (second.each x other)
          ];
          all = λ x must. elim (of_either x must) [
            | inl one ↦ Contains-append_left first.those second.those x (first.all x one)
            | inr other ↦ Contains-append_right first.those second.those x (second.all x other)
          ];
          once = pairs-append (λ x y. x ≢ y) first.those second.those first.once second.once
              (λ x y one other same. apart y (first.each y (subst (Contains first.those) same one)) (second.each y other));
          at_most = omega (arith, long, first.at_most, second.at_most);
          at_least = omega (arith, long, first.at_least, second.at_least);
        }

-- of things that stand for others, each for one
module _ {X Y : Type 0} (f : X → Y) (injective : (a b : X) → f a ≡ f b → a ≡ b) (May Must : X → Type 0) (MayOf MustOf : Y → Type 0) (there : (x : X) → May x → MayOf (f x)) (back : (y : Y) → MustOf y → (x : X) × Must x × (f x ≡ y)) where
  pub within-map : (before after : ℕ) → RisesWithin May Must before after → RisesWithin MayOf MustOf before after
  within-map before after rises =
      let long = length-map rises.those f in
      record {
        those = map f rises.those;
        each = λ y at. let x = from-mapped f rises.those y at in subst MayOf x.2 (there x.0 (rises.each x.0 x.1));
        all = λ y must. let x = back y must in subst (Contains (map f rises.those)) x.2 (mapped f rises.those x.0 (rises.all x.0 x.1));
        once = pairs-map f (λ a b. a ≢ b) rises.those rises.once (λ a b one other apart same. apart (injective a b same));
        at_most = omega (arith, long, rises.at_most);
        at_least = omega (arith, long, rises.at_least);
      }

-- number by number
module _ {X : Type 0} (May Must : ℕ → X → Type 0) where
  pub within-first : (count : ℕ) → RisesWithin (UpTo May 0) (UpTo Must 0) count count
  within-first count = within-none (UpTo May 0) (UpTo Must 0) count (λ p below. no-less p.0 below.0)
    where
      no-less : (k : ℕ) → k < 0 → ⊥
      no-less k less = omega (arith, less)

  pub within-next : (i before between after : ℕ) → RisesWithin (UpTo May i) (UpTo Must i) before between → RisesWithin (May i) (Must i) between after → RisesWithin (UpTo May (i + 1)) (UpTo Must (i + 1)) before after
  within-next i before between after first second =
      within-both (UpTo May i) (UpTo Must i) (At May) (At Must) (UpTo May (i + 1)) (UpTo Must (i + 1))
      (λ p may. (more p.0 may.0, may.1)) (λ p may. (here p.0 may.0, may.1)) (λ p must. either p must.0 must.1) (λ p one other. never p.0 one.0 other.0) before between after first
      (within-map (λ x. (i, x)) (λ a b same. ap (λ p. p.1) same) (May i) (Must i) (At May) (At Must) (λ x may. (refl, may))
      (λ p must. (p.1, subst (λ n. Must n p.1) must.0 must.1, λ k. (sym must.0 k, p.1))) between after second)
    where
      At : (ℕ → X → Type 0) → ℕ × X → Type 0
      At Of p = (p.0 ≡ i) × Of p.0 p.1

      more : (k : ℕ) → k < i → k < i + 1
      more k low = omega (arith, low)

      here : (k : ℕ) → k ≡ i → k < i + 1
      here k same = omega (arith, same)

      never : (k : ℕ) → k < i → k ≡ i → ⊥
      never k low same = omega (arith, low, same)

      either : (p : ℕ × X) → p.0 < i + 1 → Must p.0 p.1 → UpTo Must i p ⊎ At Must p
      either p low must =
          elim (cases_lt p.0 i) [
            | inl before_it ↦ inl (before_it, must)
            | inr past ↦ inr (let same : p.0 ≡ i = omega (arith, low, past) in same, must)
          ]

-- ---- numbers that pass a test, one by one

up_to-none : (p : ℕ → Bool) (k : ℕ) → up_to p 0 k ≡ false
up_to-none p k = ap (λ b. b && p k) (le-ltb k 0 (omega arith))

pub up_to-first : (p : ℕ → Bool) (count : ℕ) → RisesBy (up_to p 0) count count
up_to-first p count = rises-none (up_to p 0) count (up_to-none p)

module _ (p : ℕ → Bool) (n : ℕ) where
  before-it : (k : ℕ) → k ≢ n → up_to p (n + 1) k ≡ up_to p n k
  before-it k other =
      elim (cases_lt k n) [
        | inl low ↦ ap (λ b. b && p k) (lt-ltb k (n + 1) (omega (arith, low)) ∙ sym (lt-ltb k n low))
        | inr high ↦ ap (λ b. b && p k) (le-ltb k (n + 1) (omega (arith, high, other)) ∙ sym (le-ltb k n high))
      ]

  -- one more number that doesn't pass
  pub up_to-skip : p n ≡ false → (k : ℕ) → up_to p n k ≡ up_to p (n + 1) k
  up_to-skip fails k =
      elim (cases_eq k n) [
        | inl same ↦
            ap (λ b. b && p k) (le-ltb k n (omega (arith, same)))
            ∙ sym (ap (λ b. b && p k) (lt-ltb k (n + 1) (omega (arith, same))) ∙ ap p same ∙ fails)
        | inr other ↦ sym (before-it k other)
      ]

  -- one that does
  joined : p n ≡ true → (k : ℕ) → cond (up_to p n k) 1 0 + cond (n == k) 1 0 ≡ cond (up_to p (n + 1) k) 1 0
  joined passes k =
      elim (cases_eq k n) [
        | inl same ↦
            ap (λ b. cond (b && p k) 1 0 + cond (n == k) 1 0) (le-ltb k n (omega (arith, same)))
            ∙ ap (λ b. 0 + cond b 1 0) (eq-eqb n k (sym same))
            ∙ sym (ap (λ b. cond (b && p k) 1 0) (lt-ltb k (n + 1) (omega (arith, same))) ∙ ap (λ b. cond b 1 0) (ap p same ∙ passes))
        | inr other ↦
            ap (λ b. cond (up_to p n k) 1 0 + cond b 1 0) (ne_eqb n k (λ e. other (sym e)))
            ∙ add-zero (cond (up_to p n k) 1 0)
            ∙ sym (ap (λ b. cond b 1 0) (before-it k other))
      ]

  pub up_to-add : p n ≡ true → (before between after : ℕ) → RisesBy (up_to p n) before between → after ≡ min (between + 1) (2 ^ 128 - 1) → RisesBy (up_to p (n + 1)) before after
  up_to-add passes before between after first sum =
      rises-more (up_to p n) (λ k. n == k) (up_to p (n + 1)) (joined passes) before between 1 after first
      (rises-one (λ k. n == k) n (eq-eqb n n refl) (λ k is. eqb-true n k is)) sum

-- some count is that of those below a number
pub up_to-some : (p : ℕ → Bool) (n : ℕ) → (some : ℕ) × RisesBy (up_to p n) 0 some
up_to-some p zero = (0, up_to-first p 0)
up_to-some p (suc n) = by (up_to-some p n) (p n) refl
  where
    by : (some : ℕ) × RisesBy (up_to p n) 0 some → (b : Bool) → p n ≡ b → (some : ℕ) × RisesBy (up_to p (suc n)) 0 some
    by before true passes =
        let next = min (before.0 + 1) (2 ^ 128 - 1) in
        (next, subst (λ k. RisesBy (up_to p k) 0 next) (add-one n) (up_to-add p n passes 0 before.0 next before.1 refl))
    by before false fails =
        (before.0, subst (λ k. RisesBy (up_to p k) 0 before.0) (add-one n) (rises-same (up_to p n) (up_to p (n + 1)) 0 before.0 (up_to-skip p n fails) before.1))
