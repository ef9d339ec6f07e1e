-- Places in lists, and offsets that rise.
use Rattle.cil_specs.proofs.Common.{◌≡◌, ℕ, ◌+◌, ◌<◌, ◌≤◌, ◌⊎◌, inl, inr, zero, suc, Bool, true, false, nat_le, List, [], ◌∷◌, ◌++◌, get_or, map, if◌then◌else◌, refl, sym, ap, subst, arith, drop, AllByRecursion, leb-true, le-leb, rise_from}
use Rattle.std.proofs.Common.{filter, Contains}
use Rattle.cil_specs.proofs.Runs.{both_true, first_true, second_true}

pub all-weaker : {X : Type 0} (P Q : X → Type 0) → ((x : X) → P x → Q x) → (xs : List X) → AllByRecursion P xs → AllByRecursion Q xs
all-weaker P Q f [] all = tt
all-weaker P Q f (x ∷ xs) all = (f x all.0, all-weaker P Q f xs all.1)

pub all-append : {X : Type 0} (P : X → Type 0) (xs ys : List X) → AllByRecursion P xs → AllByRecursion P ys → AllByRecursion P (xs ++ ys)
all-append P [] ys all more = more
all-append P (x ∷ xs) ys all more = (all.0, all-append P xs ys all.1 more)

pub all-first : {X : Type 0} (P : X → Type 0) (xs ys : List X) → AllByRecursion P (xs ++ ys) → AllByRecursion P xs
all-first P [] ys all = tt
all-first P (x ∷ xs) ys all = (all.0, all-first P xs ys all.1)

pub all-second : {X : Type 0} (P : X → Type 0) (xs ys : List X) → AllByRecursion P (xs ++ ys) → AllByRecursion P ys
all-second P [] ys all = all
all-second P (x ∷ xs) ys all = all-second P xs ys all.1

pub all-contained : {X : Type 0} (P : X → Type 0) (xs : List X) (x : X) → AllByRecursion P xs → Contains xs x → P x
all-contained P [] x all c = absurd (omega (arith, c.1))
all-contained P (y ∷ ys) x all (zero, within, is) = subst P is all.0
all-contained P (y ∷ ys) x all (suc k, within, is) = all-contained P ys x all.1 (k, omega (arith, within), is)

-- an element is the first or one of the others
pub contains-cases : {X : Type 0} (x : X) (xs : List X) (y : X) → Contains (x ∷ xs) y → (x ≡ y) ⊎ Contains xs y
contains-cases x xs y (zero, within, is) = inl is
contains-cases x xs y (suc k, within, is) = inr (k, omega (arith, within), is)

pub contains-first : {X : Type 0} (x : X) (xs : List X) → Contains (x ∷ xs) x
contains-first x xs = (0, omega arith, refl)

pub contains-other : {X : Type 0} (x : X) (xs : List X) (y : X) → Contains xs y → Contains (x ∷ xs) y
contains-other x xs y (k, within, is) = (suc k, omega (arith, within), is)

pub contains-map : {X Y : Type 0} (f : X → Y) (xs : List X) (x : X) → Contains xs x → Contains (map f xs) (f x)
contains-map f [] x c = absurd (omega (arith, c.1))
contains-map f (y ∷ ys) x (zero, within, is) = (0, omega arith, ap f is)
contains-map f (y ∷ ys) x (suc k, within, is) = contains-other (f y) (map f ys) (f x) (contains-map f ys x (k, omega (arith, within), is))

-- an element of mapped elements comes from one
pub contains-mapped : {X Y : Type 0} (f : X → Y) (xs : List X) (y : Y) → Contains (map f xs) y → (x : X) × Contains xs x × (f x ≡ y)
contains-mapped f [] y c = absurd (omega (arith, c.1))
contains-mapped f (x ∷ xs) y (zero, within, is) = (x, contains-first x xs, is)
contains-mapped f (x ∷ xs) y (suc k, within, is) =
    let more = contains-mapped f xs y (k, omega (arith, within), is) in
    (more.0, contains-other x xs more.0 more.1, more.2)

pub contains-middle : {X : Type 0} (xs : List X) (x : X) (ys : List X) → Contains (xs ++ x ∷ ys) x
contains-middle [] x ys = contains-first x ys
contains-middle (z ∷ xs) x ys = contains-other z (xs ++ x ∷ ys) x (contains-middle xs x ys)

-- a list around one of its elements
pub record Around {X : Type 0} (xs : List X) (x : X) : Type 0 where
  pub before : List X
  pub after : List X
  pub whole : xs ≡ before ++ x ∷ after

pub around : {X : Type 0} (xs : List X) (x : X) → Contains xs x → Around xs x
around [] x c = absurd (omega (arith, c.1))
around (y ∷ ys) x (zero, within, is) = record { before = []; after = ys; whole = ap (λ z. z ∷ ys) is }
around (y ∷ ys) x (suc k, within, is) =
    let more = around ys x (k, omega (arith, within), is) in
    record { before = y ∷ more.before; after = more.after; whole = ap (λ l. y ∷ l) more.whole }

-- how an element y stands to an element x of one list, each with what stands before it and after it
pub data Stands {X : Type 0} (before : List X) (x : X) (after : List X) (others : List X) (y : X) : Type 0 where
  same_place : others ≡ before → y ≡ x → Stands before x after others y
  later : (between more : List X) → others ≡ before ++ x ∷ between → after ≡ between ++ y ∷ more → Stands before x after others y
  earlier : (between : List X) → before ≡ others ++ y ∷ between → Stands before x after others y

pub stands : {X : Type 0} (before : List X) (x : X) (after others : List X) (y : X) (more : List X) → before ++ x ∷ after ≡ others ++ y ∷ more → Stands before x after others y
stands [] x after [] y more e = same_place refl (sym (ap (λ l. get_or l 0 x) e))
stands [] x after (z ∷ others) y more e =
    later others more (ap (λ w. w ∷ others) (sym (ap (λ l. get_or l 0 x) e))) (ap (drop 1) e)
stands (z ∷ before) x after [] y more e = earlier before (ap (λ w. w ∷ before) (ap (λ l. get_or l 0 x) e))
stands (z ∷ before) x after (w ∷ others) y more e =
    let head : z ≡ w = ap (λ l. get_or l 0 x) e in
    elim (stands before x after others y more (ap (drop 1) e)) [
      | same_place a b ↦ same_place (λ i. sym head i ∷ a i) b
      | later between rest a b ↦ later between rest (λ i. sym head i ∷ a i) b
      | earlier between a ↦ earlier between (λ i. head i ∷ a i)
    ]

-- numbers that rise from one on are no less
pub rises-low : (low : ℕ) (ns : List ℕ) → rise_from low ns ≡ true → AllByRecursion (λ n. low ≤ n) ns
rises-low low [] r = tt
rises-low low (n ∷ ns) r =
    let first : low ≤ n = leb-true low n (first_true (nat_le low n) (rise_from (n + 1) ns) r) in
    (first, all-weaker (λ m. n + 1 ≤ m) (λ m. low ≤ m) (λ m le. omega arith) ns (rises-low (n + 1) ns (second_true (nat_le low n) (rise_from (n + 1) ns) r)))

pub rises-less : (low lower : ℕ) (ns : List ℕ) → lower ≤ low → rise_from low ns ≡ true → rise_from lower ns ≡ true
rises-less low lower [] le r = refl
rises-less low lower (n ∷ ns) le r =
    let first : low ≤ n = leb-true low n (first_true (nat_le low n) (rise_from (n + 1) ns) r) in
    both_true (nat_le lower n) (rise_from (n + 1) ns) (le-leb lower n (omega arith)) (second_true (nat_le low n) (rise_from (n + 1) ns) r)

-- numbers that rise from one on, before others that rise further
pub record RiseOn (low : ℕ) (ms ns : List ℕ) : Type 0 where
  pub high : ℕ
  pub no_less : low ≤ high
  pub first : rise_from low ms ≡ true
  pub below : AllByRecursion (λ m. m < high) ms
  pub second : rise_from high ns ≡ true

pub rises-append : (low : ℕ) (ms ns : List ℕ) → rise_from low (ms ++ ns) ≡ true → RiseOn low ms ns
rises-append low [] ns r = record { high = low; no_less = omega arith; first = refl; below = tt; second = r }
rises-append low (m ∷ ms) ns r =
    let first : nat_le low m ≡ true = first_true (nat_le low m) (rise_from (m + 1) (ms ++ ns)) r in
    let le : low ≤ m = leb-true low m first in
    let more = rises-append (m + 1) ms ns (second_true (nat_le low m) (rise_from (m + 1) (ms ++ ns)) r) in
    record {
      high = more.high;
      no_less = omega (arith, more.no_less);
      first = both_true (nat_le low m) (rise_from (m + 1) ms) first more.first;
      below = (omega (arith, more.no_less), more.below);
      second = more.second;
    }

-- what a filter lets through passes
pub passed : {X : Type 0} (p : X → Bool) (xs : List X) → AllByRecursion (λ x. p x ≡ true) (filter p xs)
passed p [] = tt
passed p (x ∷ xs) = by (p x) refl (passed p xs)
  where
    by : (b : Bool) → p x ≡ b → AllByRecursion (λ y. p y ≡ true) (filter p xs) → AllByRecursion (λ y. p y ≡ true) (if b then x ∷ filter p xs else filter p xs)
    by true is next = (is, next)
    by false is next = next
