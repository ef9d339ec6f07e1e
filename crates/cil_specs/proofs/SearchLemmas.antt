-- Lists in an order: the place of an item, whether it is there, and what is left without it.
use Rattle.cil_specs.proofs.Common.{◌≡◌, ◌⊎◌, inl, inr, nat_lt, ℕ, zero, suc, ◌+◌, ◌<◌, ◌≤◌, Bool, true, false, not, ◌||◌, cond, one-add, List, [], ◌∷◌, length, get_or, refl, sym, ap, ◌∙◌, subst, arith, IsTotalOrder, remove, prefix_len, list_any, slice_get, AllByRecursion, IsStrictlySortedBy, IsPartitionedBy, IsPartitionPoint, MatchOption, is_lt, ordering_reverse, Ordering, Less, Equal, Greater, ltb-true, ltb-false}
use Rattle.std.proofs.Common.{filter, true≢false}
use Rattle.cil_specs.proofs.NamesLemmas.{all-weaker}

-- the item at a place is one that the order takes for the same as x
abbrev pub IsTiedAt : {X : Type 0} → (X → X → Ordering) → List X → ℕ → X → Type 0
IsTiedAt cmp xs k x = MatchOption (slice_get xs k) ⊥ (λ y. cmp y x ≡ Equal)

pub less-is : (o : Ordering) → is_lt o ≡ true → o ≡ Less
less-is Less e = refl
less-is Equal e = absurd (true≢false (sym e))
less-is Greater e = absurd (true≢false (sym e))

-- in an order an item stands below those behind it
pub ascends-at : {X : Type 0} (cmp : X → X → Ordering) (xs : List X) (d : X) (i j : ℕ) → IsStrictlySortedBy cmp xs → i < j → j < length xs → cmp (get_or xs i d) (get_or xs j d) ≡ Less
unfolding IsStrictlySortedBy
ascends-at cmp [] d i j sorted less within = absurd (omega arith)
ascends-at cmp (x ∷ xs) d i zero sorted less within = absurd (omega arith)
ascends-at cmp (x ∷ xs) d zero (suc j) sorted less within = at xs sorted.0 j (omega arith)
  where
    at : (ys : List _) → AllByRecursion (λ y. cmp x y ≡ Less) ys → (k : ℕ) → k < length ys → cmp x (get_or ys k d) ≡ Less
    at [] all k inside = absurd (omega arith)
    at (y ∷ ys) all zero inside = all.0
    at (y ∷ ys) all (suc k) inside = at ys all.1 k (omega arith)
ascends-at cmp (x ∷ xs) d (suc i) (suc j) sorted less within = ascends-at cmp xs d i j sorted.1 (omega arith) (omega arith)

pub less-or-same : (a b : ℕ) → a ≤ b → (a < b) ⊎ (a ≡ b)
less-or-same a b le = by (nat_lt a b) refl
  where
    by : (c : Bool) → nat_lt a b ≡ c → (a < b) ⊎ (a ≡ b)
    by true is = inl (ltb-true a b is)
    by false is = inr (omega (arith, le, ltb-false a b is))

-- a front whose items pass a test, before one that fails it or the end, is the longest
pub prefix-of-point : {X : Type 0} (p : X → Bool) (xs : List X) (i : ℕ) → i ≤ length xs → IsPartitionPoint (λ y. p y ≡ true) (λ y. p y ≡ false) xs i → prefix_len p xs ≡ i
prefix-of-point p [] i within point = omega arith
prefix-of-point p (x ∷ xs) zero within point = ap (λ b. cond b (1 + prefix_len p xs) 0) (point.1 0 x (omega arith) (omega arith))
prefix-of-point p (x ∷ xs) (suc i) within point =
    ap (λ b. cond b (1 + prefix_len p xs) 0) (point.0 0 x (omega arith) (omega arith))
    ∙ omega (arith, prefix-of-point p xs i (omega arith) (λ k d low high. point.0 (suc k) d (omega arith) (omega arith), λ k d low high. point.1 (suc k) d (omega arith) (omega arith)))

module _ {X : Type 0} (cmp : X → X → Ordering) (order : IsTotalOrder cmp) where
  -- the place of an item: how many stand before it
  abbrev pub place : X → List X → ℕ
  place x xs = prefix_len (λ y. is_lt (cmp y x)) xs

  abbrev pub AllBehind : X → List X → Type 0
  AllBehind x xs = AllByRecursion (λ y. cmp x y ≡ Less) xs

  pub reversed : (a b : X) (c : Ordering) → cmp a b ≡ c → cmp b a ≡ ordering_reverse c
  reversed a b c e = order.antisymm b a ∙ ap ordering_reverse e

  -- what stands behind an item that is no less than x stands behind x
  pub behind-same : (x y : X) (xs : List X) → cmp y x ≡ Equal → AllBehind y xs → AllBehind x xs
  behind-same x y xs tied behind = all-weaker (λ z. cmp y z ≡ Less) (λ z. cmp x z ≡ Less) (λ z less. sym (order.congr y x z tied) ∙ less) xs behind

  pub behind-greater : (x y : X) (xs : List X) → cmp x y ≡ Less → AllBehind y xs → AllBehind x xs
  behind-greater x y xs less behind = all-weaker (λ z. cmp y z ≡ Less) (λ z. cmp x z ≡ Less) (λ z more. order.trans x y z less more) xs behind

  pub keep : (p : X → Bool) (x : X) (xs : List X) → p x ≡ true → filter p (x ∷ xs) ≡ x ∷ filter p xs
  keep p x xs e = ap (λ b. cond b (x ∷ filter p xs) (filter p xs)) e

  pub skip : (p : X → Bool) (x : X) (xs : List X) → p x ≡ false → filter p (x ∷ xs) ≡ filter p xs
  skip p x xs e = ap (λ b. cond b (x ∷ filter p xs) (filter p xs)) e

  pub none-before : (x : X) (xs : List X) → AllBehind x xs → filter (λ y. is_lt (cmp y x)) xs ≡ []
  none-before x [] behind = refl
  none-before x (y ∷ xs) behind = skip (λ z. is_lt (cmp z x)) y xs (ap is_lt (reversed x y Less behind.0)) ∙ none-before x xs behind.1

  pub all-after : (x : X) (xs : List X) → AllBehind x xs → filter (λ y. is_lt (cmp x y)) xs ≡ xs
  all-after x [] behind = refl
  all-after x (y ∷ xs) behind = keep (λ z. is_lt (cmp x z)) y xs (ap is_lt behind.0) ∙ ap (λ l. y ∷ l) (all-after x xs behind.1)

  none-tied : (p : X → Bool) (x : X) (xs : List X) → ((y : X) → p y ≡ true → cmp y x ≡ Equal) → AllBehind x xs → (filter (λ y. not (p y)) xs ≡ xs) × (list_any p xs ≡ false)
  none-tied p x [] tied behind = (refl, refl)
  none-tied p x (y ∷ xs) tied behind = by (p y) refl (none-tied p x xs tied behind.1)
    where
      by : (b : Bool) → p y ≡ b → (filter (λ z. not (p z)) xs ≡ xs) × (list_any p xs ≡ false) → (filter (λ z. not (p z)) (y ∷ xs) ≡ y ∷ xs) × (list_any p (y ∷ xs) ≡ false)
      by true e more = absurd (let same : ordering_reverse Less ≡ Equal = sym (reversed x y Less behind.0) ∙ tied y e in true≢false (sym (ap is_greater same)))
        where
          is_greater : Ordering → Bool
          is_greater Greater = false
          is_greater Less = true
          is_greater Equal = true
      by false e more = (keep (λ z. not (p z)) y xs (ap not e) ∙ ap (λ l. y ∷ l) more.0, ap (λ b. b || list_any p xs) e ∙ more.1)

  pub place-later : (x y : X) (xs : List X) → cmp y x ≡ Less → place x (y ∷ xs) ≡ suc (place x xs)
  place-later x y xs less = ap (λ b. cond (is_lt b) (1 + place x xs) 0) less ∙ one-add (place x xs)

  pub place-here : (x y : X) (xs : List X) (o : Ordering) → cmp y x ≡ o → is_lt o ≡ false → place x (y ∷ xs) ≡ 0
  place-here x y xs o is other = ap (λ b. cond b (1 + place x xs) 0) (ap is_lt is ∙ other)

  -- What is left of a list without the items that pass a test, which the order takes for the same as x.
  pub record Leaves (p : X → Bool) (x : X) (xs : List X) : Type 0 where
    pub taken : IsTiedAt cmp xs (place x xs) x → (filter (λ y. not (p y)) xs ≡ remove xs (place x xs)) × (list_any p xs ≡ true)
    pub absent : (IsTiedAt cmp xs (place x xs) x → ⊥) → (filter (λ y. not (p y)) xs ≡ xs) × (list_any p xs ≡ false)

  pub leaves : (p : X → Bool) (x : X) (xs : List X) → ((y : X) → p y ≡ true → cmp y x ≡ Equal) → ((y : X) → cmp y x ≡ Equal → p y ≡ true) → IsStrictlySortedBy cmp xs → Leaves p x xs
  unfolding IsStrictlySortedBy
  leaves p x [] tied passes sorted = record { taken = λ is. absurd is; absent = λ other. (refl, refl) }
  leaves p x (y ∷ xs) tied passes sorted = by (leaves p x xs tied passes sorted.1) (cmp y x) refl (p y) refl
    where
      by : Leaves p x xs → (o : Ordering) → cmp y x ≡ o → (b : Bool) → p y ≡ b → Leaves p x (y ∷ xs)
      by more Less is true e = absurd (let same : Less ≡ Equal = sym is ∙ tied y e in cc)
      by more Less is false e = record {
        taken = λ at.
            let k = place-later x y xs is in
            let both = more.taken (subst (λ n. IsTiedAt cmp (y ∷ xs) n x) k at) in
            (keep (λ z. not (p z)) y xs (ap not e) ∙ ap (λ l. y ∷ l) both.0 ∙ ap (λ n. remove (y ∷ xs) n) (sym k), ap (λ b. b || list_any p xs) e ∙ both.1);
        absent = λ other.
            let k = place-later x y xs is in
            let both = more.absent (λ at. other (subst (λ n. IsTiedAt cmp (y ∷ xs) n x) (sym k) at)) in
            (keep (λ z. not (p z)) y xs (ap not e) ∙ ap (λ l. y ∷ l) both.0, ap (λ b. b || list_any p xs) e ∙ both.1);
      }
      by more Equal is false e = absurd (true≢false (sym (passes y is) ∙ e))
      by more Equal is true e = record {
        taken = λ at. (skip (λ z. not (p z)) y xs (ap not e) ∙ (none-tied p x xs tied (behind-same x y xs is sorted.0)).0 ∙ ap (λ n. remove (y ∷ xs) n) (sym (place-here x y xs Equal is refl)), ap (λ b. b || list_any p xs) e);
        absent = λ other. absurd (other (subst (λ n. IsTiedAt cmp (y ∷ xs) n x) (sym (place-here x y xs Equal is refl)) is));
      }
      by more Greater is b e = record {
        taken = λ at. absurd (let same : Equal ≡ Greater = sym (subst (λ n. IsTiedAt cmp (y ∷ xs) n x) (place-here x y xs Greater is refl) at) ∙ is in cc);
        absent = λ other. none-tied p x (y ∷ xs) tied (let less = reversed y x Greater is in (less, behind-greater x y xs less sorted.0));
      }

  -- no item that stands before x comes behind one that doesn't
  pub partitioned : (x : X) (xs : List X) → IsStrictlySortedBy cmp xs → IsPartitionedBy (λ y. is_lt (cmp y x)) xs
  partitioned x xs sorted i j d le within passes = elim (less-or-same i j le) [
    | inl less ↦ ap is_lt (order.trans (get_or xs i d) (get_or xs j d) x (ascends-at cmp xs d i j sorted less within) (less-is (cmp (get_or xs j d) x) passes))
    | inr same ↦ subst (λ k. is_lt (cmp (get_or xs k d) x) ≡ true) (sym same) passes
  ]
