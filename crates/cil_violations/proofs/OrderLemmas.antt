-- The order of violations by numbers.
use Rattle.cil_violations.proofs.Common.{◌≡◌, ◌∙◌, ◌⊎◌, inl, inr, ℕ, zero, suc, ◌<◌, ◌≤◌, Bool, true, false, cond, List, [], ◌∷◌, ◌++◌, length, get_or, Ordering, Equal, refl, sym, ap, arith, nat_cmp, ordering_then, ordering_reverse, on, then_cmp, Greater, AllByRecursion, flat_map, IsStrictlySortedBy, cases_order, tied_itself, all_weaker, hits, Tests, row_with, rows_at, target_rows, source_rows, pair_rows, all_rows, RowNumbers}
use Rattle.std.proofs.Common.{Less}
use Rattle.std.specs.Cmp.{IsTotalOrder}
use Rattle.std.proofs.lemmas.Bool.Decides.{nat_tests}
use Rattle.std.proofs.lemmas.Map.Keys.{Less-from_sorted}
use Rattle.cil_specs.proofs.NamesLemmas.{all-append}

pub less : (i j : ℕ) → i < j → nat_cmp i j ≡ Less
less i j h = grind (arith, nat_tests)

pub equal : (i : ℕ) → nat_cmp i i ≡ Equal
equal i = grind (arith, nat_tests)

pub greater : (i j : ℕ) → j < i → nat_cmp i j ≡ Greater
greater i j h = grind (arith, nat_tests)

-- where things ascend, their order is that of their places
pub ranked : {K : Type 0} (R : K → K → Ordering) → IsTotalOrder R → (ks : List K) (d : K) → IsStrictlySortedBy R ks → (i j : ℕ) → i < length ks → j < length ks → R (get_or ks i d) (get_or ks j d) ≡ nat_cmp i j
ranked R total ks d ascending i j i_within j_within = by (cases_order i j)
  where
    by : (i ≡ j) ⊎ ((i < j) ⊎ (j < i)) → R (get_or ks i d) (get_or ks j d) ≡ nat_cmp i j
    by (inl same) = ap (λ k. R (get_or ks i d) (get_or ks k d)) (sym same) ∙ tied_itself total (get_or ks i d) ∙ sym (equal i) ∙ ap (nat_cmp i) same
    by (inr (inl below)) = Less-from_sorted R ks i j d ascending below j_within ∙ sym (less i j below)
    by (inr (inr above)) = total.antisymm (get_or ks i d) (get_or ks j d) ∙ ap ordering_reverse (Less-from_sorted R ks j i d ascending above i_within) ∙ sym (greater i j above)

-- rows by their numbers in turn
abbrev pub row_cmp : RowNumbers → RowNumbers → Ordering
row_cmp = then_cmp (on (λ r. r.never) nat_cmp) (then_cmp (on (λ r. r.allowed) nat_cmp) (then_cmp (on (λ r. r.source) nat_cmp)
    (then_cmp (on (λ r. r.target) nat_cmp) (on (λ r. r.class) nat_cmp))))

-- the numbers at which a test holds ascend
hits-from : (test : ℕ → Bool) (n from low : ℕ) → low ≤ from → AllByRecursion (λ k. low ≤ k) (hits test from n)
hits-from test zero from low on = tt
hits-from test (suc n) from low on = by (test from) (hits-from test n (suc from) low (omega arith))
  where
    by : (b : Bool) → AllByRecursion (λ k. low ≤ k) (hits test (suc from) n) → AllByRecursion (λ k. low ≤ k) (cond b (from ∷ hits test (suc from) n) (hits test (suc from) n))
    by true rest = (on, rest)
    by false rest = rest

pub hits-ascend : (test : ℕ → Bool) (n from : ℕ) → IsStrictlySortedBy nat_cmp (hits test from n)
unfolding IsStrictlySortedBy
hits-ascend test zero from = tt
hits-ascend test (suc n) from = by (test from) (hits-ascend test n (suc from))
  where
    by : (b : Bool) → IsStrictlySortedBy nat_cmp (hits test (suc from) n) → IsStrictlySortedBy nat_cmp (cond b (from ∷ hits test (suc from) n) (hits test (suc from) n))
    by true rest = (all_weaker (λ k. suc from ≤ k) (λ k. nat_cmp from k ≡ Less) (λ k low. less from k (omega (arith, low))) (hits test (suc from) n) (hits-from test n (suc from) (suc from) (omega arith)), rest)
    by false rest = rest

sorted-append : {X : Type 0} (R : X → X → Ordering) (xs ys : List X) → IsStrictlySortedBy R xs → IsStrictlySortedBy R ys → AllByRecursion (λ x. AllByRecursion (λ y. R x y ≡ Less) ys) xs → IsStrictlySortedBy R (xs ++ ys)
unfolding IsStrictlySortedBy
sorted-append R [] ys left right below = right
sorted-append R (x ∷ xs) ys left right below = (all-append (λ y. R x y ≡ Less) xs ys left.0 below.0, sorted-append R xs ys left.1 right below.1)

-- Lists for ascending numbers ascend one after the other, where each ascends and holds what has its number as key.
module _ {X : Type 0} (R : X → X → Ordering) (P : X → Type 0) (key : X → ℕ) (higher : (x y : X) → P x → P y → key x < key y → R x y ≡ Less)
    (f : ℕ → List X) (each : (n : ℕ) → IsStrictlySortedBy R (f n)) (of : (n : ℕ) → AllByRecursion (λ x. P x × (key x ≡ n)) (f n)) where
  above : (x : X) (n : ℕ) → P x → key x ≡ n → (ns : List ℕ) → AllByRecursion (λ m. nat_cmp n m ≡ Less) ns → AllByRecursion (λ y. R x y ≡ Less) (flat_map f ns)
  above x n px at [] low = tt
  above x n px at (m ∷ ns) low =
      all-append (λ y. R x y ≡ Less) (f m) (flat_map f ns)
      (all_weaker (λ y. P y × (key y ≡ m)) (λ y. R x y ≡ Less) (λ y h. higher x y px h.0 (let under = is-less n m low.0 in let there = h.1 in omega (arith, at, under, there))) (f m) (of m))
      (above x n px at ns low.1)
    where
      is-less : (a b : ℕ) → nat_cmp a b ≡ Less → a < b
      is-less a b e = grind (arith, nat_tests, e)

  pub flat-sorted : (ns : List ℕ) → IsStrictlySortedBy nat_cmp ns → IsStrictlySortedBy R (flat_map f ns)
  unfolding IsStrictlySortedBy
  flat-sorted [] ascend = tt
  flat-sorted (n ∷ ns) ascend =
      sorted-append R (f n) (flat_map f ns) (each n) (flat-sorted ns ascend.1)
      (all_weaker (λ x. P x × (key x ≡ n)) (λ x. AllByRecursion (λ y. R x y ≡ Less) (flat_map f ns)) (λ x h. above x n h.0 h.1 ns ascend.0) (f n) (of n))

-- what holds of each list holds of all
pub flat-all : {X : Type 0} (f : ℕ → List X) (Q : X → Type 0) → ((n : ℕ) → AllByRecursion Q (f n)) → (ns : List ℕ) → AllByRecursion Q (flat_map f ns)
flat-all f Q all [] = tt
flat-all f Q all (n ∷ ns) = all-append Q (f n) (flat_map f ns) (all n) (flat-all f Q all ns)

tie : (i j : ℕ) → i ≡ j → nat_cmp i j ≡ Equal
tie i j same = ap (nat_cmp i) (sym same) ∙ equal i

-- what is left of a comparison of rows
module _ (x y : RowNumbers) where
  abbrev by_class : Ordering
  by_class = nat_cmp x.class y.class

  abbrev by_target : Ordering
  by_target = ordering_then (nat_cmp x.target y.target) by_class

  abbrev by_source : Ordering
  by_source = ordering_then (nat_cmp x.source y.source) by_target

  by-never : x.never < y.never → row_cmp x y ≡ Less
  by-never low = ap (λ o. ordering_then o (ordering_then (nat_cmp x.allowed y.allowed) by_source)) (less x.never y.never low)

  by-allowed : x.never ≡ y.never → x.allowed < y.allowed → row_cmp x y ≡ Less
  by-allowed never low = (λ i. ordering_then (tie x.never y.never never i) (ordering_then (less x.allowed y.allowed low i) by_source))

  by-source : x.never ≡ y.never → x.allowed ≡ y.allowed → x.source < y.source → row_cmp x y ≡ Less
  by-source never allowed low =
      (λ i. ordering_then (tie x.never y.never never i) (ordering_then (tie x.allowed y.allowed allowed i) (ordering_then (less x.source y.source low i) by_target)))

  by-target : x.never ≡ y.never → x.allowed ≡ y.allowed → x.source ≡ y.source → x.target < y.target → row_cmp x y ≡ Less
  by-target never allowed source low =
      (λ i. ordering_then (tie x.never y.never never i) (ordering_then (tie x.allowed y.allowed allowed i)
      (ordering_then (tie x.source y.source source i) (ordering_then (less x.target y.target low i) by_class))))

  by-class : x.never ≡ y.never → x.allowed ≡ y.allowed → x.source ≡ y.source → x.target ≡ y.target → x.class < y.class → row_cmp x y ≡ Less
  by-class never allowed source target low =
      (λ i. ordering_then (tie x.never y.never never i) (ordering_then (tie x.allowed y.allowed allowed i)
      (ordering_then (tie x.source y.source source i) (ordering_then (tie x.target y.target target i) (less x.class y.class low i)))))

alone : (x : RowNumbers) → IsStrictlySortedBy row_cmp (x ∷ [])
unfolding IsStrictlySortedBy
alone x = (tt, tt)

module _ (tests : Tests) (rules names : ℕ) where
  abbrev classes : ℕ → ℕ → List ℕ
  classes i j = hits (tests.the_class i j) 0 names

  classes-of : (i j s t : ℕ) → AllByRecursion (λ x. (x.never ≡ i) × (x.allowed ≡ j) × (x.source ≡ s) × (x.target ≡ t)) (rows_at i j (classes i j) s t)
  classes-of i j s t =
      flat-all (λ c. row_with i j s t c ∷ []) (λ x. (x.never ≡ i) × (x.allowed ≡ j) × (x.source ≡ s) × (x.target ≡ t)) (λ c. ((refl, refl, refl, refl), tt)) (classes i j)

  targets-of : (i j s : ℕ) → AllByRecursion (λ x. (x.never ≡ i) × (x.allowed ≡ j) × (x.source ≡ s)) (target_rows tests names i j s)
  targets-of i j s =
      flat-all (rows_at i j (classes i j) s) (λ x. (x.never ≡ i) × (x.allowed ≡ j) × (x.source ≡ s))
      (λ t. all_weaker (λ x. (x.never ≡ i) × (x.allowed ≡ j) × (x.source ≡ s) × (x.target ≡ t)) (λ x. (x.never ≡ i) × (x.allowed ≡ j) × (x.source ≡ s)) (λ x h. (h.0, h.1, h.2))
      (rows_at i j (classes i j) s t) (classes-of i j s t))
      (hits (tests.target i j s) 0 names)

  sources-of : (i j : ℕ) → AllByRecursion (λ x. (x.never ≡ i) × (x.allowed ≡ j)) (source_rows tests names i j)
  sources-of i j =
      flat-all (target_rows tests names i j) (λ x. (x.never ≡ i) × (x.allowed ≡ j))
      (λ s. all_weaker (λ x. (x.never ≡ i) × (x.allowed ≡ j) × (x.source ≡ s)) (λ x. (x.never ≡ i) × (x.allowed ≡ j)) (λ x h. (h.0, h.1)) (target_rows tests names i j s) (targets-of i j s))
      (hits (tests.source i j) 0 names)

  pairs-of : (i : ℕ) → AllByRecursion (λ x. x.never ≡ i) (pair_rows tests rules names i)
  pairs-of i =
      flat-all (source_rows tests names i) (λ x. x.never ≡ i)
      (λ j. all_weaker (λ x. (x.never ≡ i) × (x.allowed ≡ j)) (λ x. x.never ≡ i) (λ x h. h.0) (source_rows tests names i j) (sources-of i j))
      (hits (tests.pair i) 0 rules)

  classes-sorted : (i j s t : ℕ) → IsStrictlySortedBy row_cmp (rows_at i j (classes i j) s t)
  classes-sorted i j s t =
      flat-sorted row_cmp (λ x. (x.never ≡ i) × (x.allowed ≡ j) × (x.source ≡ s) × (x.target ≡ t)) (λ x. x.class)
      (λ x y px py low. by-class x y (px.0 ∙ sym py.0) (px.1 ∙ sym py.1) (px.2 ∙ sym py.2) (px.3 ∙ sym py.3) low) (λ c. row_with i j s t c ∷ []) (λ c. alone (row_with i j s t c))
      (λ c. (((refl, refl, refl, refl), refl), tt)) (classes i j) (hits-ascend (tests.the_class i j) names 0)

  targets-sorted : (i j s : ℕ) → IsStrictlySortedBy row_cmp (target_rows tests names i j s)
  targets-sorted i j s =
      flat-sorted row_cmp (λ x. (x.never ≡ i) × (x.allowed ≡ j) × (x.source ≡ s)) (λ x. x.target)
      (λ x y px py low. by-target x y (px.0 ∙ sym py.0) (px.1 ∙ sym py.1) (px.2 ∙ sym py.2) low) (rows_at i j (classes i j) s) (classes-sorted i j s)
      (λ t. all_weaker (λ x. (x.never ≡ i) × (x.allowed ≡ j) × (x.source ≡ s) × (x.target ≡ t)) (λ x. ((x.never ≡ i) × (x.allowed ≡ j) × (x.source ≡ s)) × (x.target ≡ t))
      (λ x h. ((h.0, h.1, h.2), h.3)) (rows_at i j (classes i j) s t) (classes-of i j s t))
      (hits (tests.target i j s) 0 names) (hits-ascend (tests.target i j s) names 0)

  sources-sorted : (i j : ℕ) → IsStrictlySortedBy row_cmp (source_rows tests names i j)
  sources-sorted i j =
      flat-sorted row_cmp (λ x. (x.never ≡ i) × (x.allowed ≡ j)) (λ x. x.source) (λ x y px py low. by-source x y (px.0 ∙ sym py.0) (px.1 ∙ sym py.1) low) (target_rows tests names i j) (targets-sorted i j)
      (λ s. all_weaker (λ x. (x.never ≡ i) × (x.allowed ≡ j) × (x.source ≡ s)) (λ x. ((x.never ≡ i) × (x.allowed ≡ j)) × (x.source ≡ s)) (λ x h. ((h.0, h.1), h.2)) (target_rows tests names i j s) (targets-of i j s))
      (hits (tests.source i j) 0 names) (hits-ascend (tests.source i j) names 0)

  pairs-sorted : (i : ℕ) → IsStrictlySortedBy row_cmp (pair_rows tests rules names i)
  pairs-sorted i =
      flat-sorted row_cmp (λ x. x.never ≡ i) (λ x. x.allowed) (λ x y px py low. by-allowed x y (px ∙ sym py) low) (source_rows tests names i) (sources-sorted i) (sources-of i)
      (hits (tests.pair i) 0 rules) (hits-ascend (tests.pair i) rules 0)

  pub rows-sorted : IsStrictlySortedBy row_cmp (all_rows tests rules names)
  rows-sorted =
      flat-sorted row_cmp (λ x. Unit {0}) (λ x. x.never) (λ x y px py low. by-never x y low) (pair_rows tests rules names) pairs-sorted
      (λ i. all_weaker (λ x. x.never ≡ i) (λ x. Unit {0} × (x.never ≡ i)) (λ x h. (tt, h)) (pair_rows tests rules names i) (pairs-of i))
      (hits tests.never 0 rules) (hits-ascend tests.never rules 0)
