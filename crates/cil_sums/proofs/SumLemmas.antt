-- Sums over numbers, and the sum over one list taken from the side of another.
use Rattle.std.proofs.Common.{◌≡◌, ◌≢◌, ◌+◌, ◌<◌, ◌≤◌, ℕ, zero, suc, cond, nat_lt, List, Option, None, Some, slice_get, refl, sym, ap, ◌∙◌, inl, inr, arith, add-one}
use Rattle.std.proofs.lemmas.Bool.{cases_eq, cases_lt, lt-ltb, le-ltb}
use Rattle.cil_sums.specs.Sums.{sum_below, if_alone, at_place, alone, across, ArePlaces}

pub sum-none : (f : ℕ → ℕ) → sum_below f 0 ≡ 0
unfolding sum_below
sum-none f = refl

sum-suc : (f : ℕ → ℕ) (n : ℕ) → sum_below f (suc n) ≡ sum_below f n + f n
unfolding sum_below
sum-suc f n = refl

pub sum-more : (f : ℕ → ℕ) (n : ℕ) → sum_below f (n + 1) ≡ sum_below f n + f n
sum-more f n = ap (sum_below f) (add-one n) ∙ sum-suc f n

-- the sums of what is the same are the same
pub sum-same : (f g : ℕ → ℕ) (n : ℕ) → ((i : ℕ) → i < n → f i ≡ g i) → sum_below f n ≡ sum_below g n
sum-same f g zero same = sum-none f ∙ sym (sum-none g)
sum-same f g (suc n) same = let before = sum-same f g n (λ i h. same i (omega (arith, h))) in omega (arith, before, same n (omega arith), sum-suc f n, sum-suc g n)

-- of what is nowhere more the sum isn't
pub sum-most : (f g : ℕ → ℕ) (n : ℕ) → ((i : ℕ) → i < n → f i ≤ g i) → sum_below f n ≤ sum_below g n
sum-most f g zero most = omega (arith, sum-none f, sum-none g)
sum-most f g (suc n) most = let before = sum-most f g n (λ i h. most i (omega (arith, h))) in omega (arith, before, most n (omega arith), sum-suc f n, sum-suc g n)

-- the sum over fewer numbers is at most that over all
pub sum-up_to : (f : ℕ → ℕ) (m n : ℕ) → m ≤ n → sum_below f m ≤ sum_below f n
sum-up_to f m zero low = let e : m ≡ 0 = omega (arith, low) in omega (arith, ap (sum_below f) e)
sum-up_to f m (suc n) low =
    elim (cases_lt n m) [
      | inl past ↦ let e : m ≡ suc n = omega (arith, low, past) in omega (arith, ap (sum_below f) e)
      | inr within ↦ let before = sum-up_to f m n within in omega (arith, before, sum-suc f n)
    ]

-- a number below another, with those before it
pub sum-part : (f : ℕ → ℕ) (i n : ℕ) → i < n → sum_below f i + f i ≤ sum_below f n
sum-part f i n within = let up_to = sum-up_to f (i + 1) n (omega (arith, within)) in omega (arith, up_to, sum-more f i)

-- of what is 0 everywhere the sum is 0
pub sum-zero : (f : ℕ → ℕ) (n : ℕ) → ((i : ℕ) → i < n → f i ≡ 0) → sum_below f n ≡ 0
sum-zero f zero none = sum-none f
sum-zero f (suc n) none = let before = sum-zero f n (λ i h. none i (omega (arith, h))) in omega (arith, before, none n (omega arith), sum-suc f n)

-- what is 0 from a number on adds nothing
pub sum-rest : (f : ℕ → ℕ) (m n : ℕ) → m ≤ n → ((i : ℕ) → m ≤ i → i < n → f i ≡ 0) → sum_below f m ≡ sum_below f n
sum-rest f m zero low none = let e : m ≡ 0 = omega (arith, low) in ap (sum_below f) e
sum-rest f m (suc n) low none =
    elim (cases_lt n m) [
      | inl past ↦ let e : m ≡ suc n = omega (arith, low, past) in ap (sum_below f) e
      | inr within ↦ let before = sum-rest f m n within (λ i high h. none i high (omega (arith, h))) in omega (arith, before, none n within (omega arith), sum-suc f n)
    ]

-- what differs at one number alone
pub sum-one : (f g : ℕ → ℕ) (k n : ℕ) → k < n → ((i : ℕ) → i ≢ k → f i ≡ g i) → sum_below f n + g k ≡ sum_below g n + f k
sum-one f g k zero within other = absurd (omega (arith, within))
sum-one f g k (suc n) within other =
    elim (cases_eq n k) [
      | inl last ↦ let before = sum-same f g n (λ i h. other i (λ e. omega (arith, e, h, last))) in omega (arith, before, sum-suc f n, sum-suc g n, ap f last, ap g last)
      | inr not ↦ let before = sum-one f g k n (omega (arith, within, not)) other in omega (arith, before, other n not, sum-suc f n, sum-suc g n)
    ]

module _ (f : ℕ → ℕ) (places : List (Option ℕ)) where
  pub alone-some : (i j : ℕ) → slice_get places i ≡ Some (Some j) → alone f places i ≡ 0
  unfolding alone
  alone-some i j is = ap (λ p. if_alone p (f i)) is

  pub alone-none : (i : ℕ) → ((j : ℕ) → slice_get places i ≡ Some (Some j) → ⊥) → alone f places i ≡ f i
  unfolding alone
  alone-none i none = by (slice_get places i) none
    where
      by : (p : Option (Option ℕ)) → ((j : ℕ) → p ≡ Some (Some j) → ⊥) → if_alone p (f i) ≡ f i
      by None not = refl
      by (Some None) not = refl
      by (Some (Some j)) not = absurd (not j refl)

  pub alone-most : (i : ℕ) → alone f places i ≤ f i
  unfolding alone
  alone-most i = by (slice_get places i)
    where
      by : (p : Option (Option ℕ)) → if_alone p (f i) ≤ f i
      by None = omega arith
      by (Some None) = omega arith
      by (Some (Some j)) = omega arith

  pub across-some : (i j : ℕ) → slice_get places j ≡ Some (Some i) → across f places j ≡ f i
  unfolding across
  across-some i j is = ap (λ p. at_place p f) is

  pub across-none : (j : ℕ) → ((i : ℕ) → slice_get places j ≡ Some (Some i) → ⊥) → across f places j ≡ 0
  unfolding across
  across-none j none = by (slice_get places j) none
    where
      by : (p : Option (Option ℕ)) → ((i : ℕ) → p ≡ Some (Some i) → ⊥) → at_place p f ≡ 0
      by None not = refl
      by (Some None) not = refl
      by (Some (Some i)) not = absurd (not i refl)

-- so much, unless there is a place below one
abbrev if_past : Option (Option ℕ) → ℕ → ℕ → ℕ
if_past None m x = x
if_past (Some None) m x = x
if_past (Some (Some j)) m x = cond (nat_lt j m) 0 x

if_past-zero : (p : Option (Option ℕ)) (x : ℕ) → if_past p 0 x ≡ x
if_past-zero None x = refl
if_past-zero (Some None) x = refl
if_past-zero (Some (Some j)) x = ap (λ b. cond b 0 x) (le-ltb j 0 (omega arith))

if_past-all : (p : Option (Option ℕ)) (m x : ℕ) → ((j : ℕ) → p ≡ Some (Some j) → j < m) → if_past p m x ≡ if_alone p x
if_past-all None m x below = refl
if_past-all (Some None) m x below = refl
if_past-all (Some (Some j)) m x below = ap (λ b. cond b 0 x) (lt-ltb j m (below j refl))

if_past-at : (p : Option (Option ℕ)) (m x : ℕ) → p ≡ Some (Some m) → (if_past p m x ≡ x) × (if_past p (m + 1) x ≡ 0)
if_past-at p m x is =
    (ap (λ q. if_past q m x) is ∙ ap (λ b. cond b 0 x) (le-ltb m m (omega arith)), ap (λ q. if_past q (m + 1) x) is ∙ ap (λ b. cond b 0 x) (lt-ltb m (m + 1) (omega arith)))

if_past-other : (p : Option (Option ℕ)) (m x : ℕ) → (p ≡ Some (Some m) → ⊥) → if_past p m x ≡ if_past p (m + 1) x
if_past-other None m x not = refl
if_past-other (Some None) m x not = refl
if_past-other (Some (Some j)) m x not =
    elim (cases_lt j m) [
      | inl low ↦ ap (λ b. cond b 0 x) (lt-ltb j m low ∙ sym (lt-ltb j (m + 1) (omega (arith, low))))
      | inr high ↦
          let above : m + 1 ≤ j = past m j high (λ e. not (ap (λ k. Some (Some k)) e)) in
          ap (λ b. cond b 0 x) (le-ltb j m high ∙ sym (le-ltb j (m + 1) above))
    ]
  where
    past : (m j : ℕ) → m ≤ j → (j ≡ m → ⊥) → m + 1 ≤ j
    past m j high other = omega (arith, high, other)

module _ (f : ℕ → ℕ) (n : ℕ) (ahead back : List (Option ℕ)) where
  abbrev past : ℕ → ℕ → ℕ
  past m i = if_past (slice_get ahead i) m (f i)

  -- one more number of the other list
  side-more : (m : ℕ) → ((i : ℕ) → slice_get ahead i ≡ Some (Some m) → slice_get back m ≡ Some (Some i)) → ((i : ℕ) → slice_get back m ≡ Some (Some i) → (i < n) × (slice_get ahead i ≡ Some (Some m)))
      → sum_below (past m) n ≡ sum_below (past (m + 1)) n + across f back m
  side-more m to from = by (slice_get back m) refl
    where
      none : ((i : ℕ) → slice_get back m ≡ Some (Some i) → ⊥) → sum_below (past m) n ≡ sum_below (past (m + 1)) n + across f back m
      none not =
          let same = sum-same (past m) (past (m + 1)) n (λ i h. if_past-other (slice_get ahead i) m (f i) (λ is. not i (to i is))) in
          omega (arith, same, across-none f back m not)

      some : (k : ℕ) → slice_get back m ≡ Some (Some k) → sum_below (past m) n ≡ sum_below (past (m + 1)) n + across f back m
      some k is =
          let there = from k is in
          let at = if_past-at (slice_get ahead k) m (f k) there.1 in
          let one = sum-one (past m) (past (m + 1)) k n there.0 (λ i other. if_past-other (slice_get ahead i) m (f i) (λ e. other (same_place i k (sym (to i e) ∙ is)))) in
          omega (arith, one, at.0, at.1, across-some f back k m is)
        where
          same_place : (i k : ℕ) → Some (Some i) ≡ Some (Some k) → i ≡ k
          same_place i k e = cc

      by : (p : Option (Option ℕ)) → slice_get back m ≡ p → sum_below (past m) n ≡ sum_below (past (m + 1)) n + across f back m
      by None is = none (λ i e. no_none i (sym is ∙ e))
        where
          no_none : (i : ℕ) → None ≡ Some (Some i) → ⊥
          no_none i e = cc
      by (Some None) is = none (λ i e. no_some i (sym is ∙ e))
        where
          no_some : (i : ℕ) → Some None ≡ Some (Some i) → ⊥
          no_some i e = cc
      by (Some (Some k)) is = some k is

  module _ (m : ℕ) (places : ArePlaces n m ahead back) where
    side-up_to : (k : ℕ) → k ≤ m → sum_below f n ≡ sum_below (past k) n + sum_below (across f back) k
    side-up_to zero low = let same = sum-same f (past 0) n (λ i h. sym (if_past-zero (slice_get ahead i) (f i))) in omega (arith, same, sum-none (across f back))
    side-up_to (suc k) low =
        let before = side-up_to k (omega (arith, low)) in
        let more = side-more k (λ i is. (places.to i k is).1) (λ i is. places.from i k is) in
        let next : sum_below (past (k + 1)) n ≡ sum_below (past (suc k)) n = ap (λ j. sum_below (past j) n) (add-one k) in
        omega (arith, before, more, next, sum-suc (across f back) k)

    -- The sum over the one list is that over its numbers without a place in the other list, and that over the others, taken from the
    -- other list's side.
    pub sum-sides : sum_below f n ≡ sum_below (alone f ahead) n + sum_below (across f back) m
    unfolding alone
    sum-sides =
        let all = side-up_to m (omega arith) in
        let rest = sum-same (past m) (alone f ahead) n (λ i h. past-all i) in
        omega (arith, all, rest)
      where
        past-all : (i : ℕ) → past m i ≡ alone f ahead i
        past-all i = if_past-all (slice_get ahead i) m (f i) (λ j is. (places.to i j is).0)

-- where two sums aren't the same, something that they sum up isn't
pub sum-differs : (f g : ℕ → ℕ) (n : ℕ) → sum_below f n ≢ sum_below g n → (i : ℕ) × (i < n) × (f i ≢ g i)
sum-differs f g zero other = absurd (other (sum-none f ∙ sym (sum-none g)))
sum-differs f g (suc n) other =
    elim (cases_eq (f n) (g n)) [
      | inl same ↦
          let before = sum-differs f g n (λ e. other (omega (arith, e, same, sum-suc f n, sum-suc g n))) in
          (before.0, omega (arith, before.1), before.2)
      | inr here ↦ (n, omega arith, here)
    ]
