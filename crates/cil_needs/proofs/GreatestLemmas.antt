-- Taking away optionals whose needs aren't met leaves the greatest set.
use Rattle.cil_needs.proofs.Common.{◌≡◌, ◌⊎◌, inl, inr, ℕ, ◌+◌, ◌*◌, ◌<◌, ◌≤◌, Bool, true, false, not, ◌||◌, nat_lt, List, [], ◌∷◌, ◌++◌, length, get_or, set, replicate, count_by, Some, slice_get, All, Contains, IsTrue, cond, sym, ap, ◌∙◌, subst, arith, true≢false, list_all, list_any, range_with_len, and_parts, or_cases, or_parts, or_left, or_right, not-true, not-false, cases_eq, ltb-true, get_or-set_other, get_or-set_same, get_or-replicate, All-append, All-same, All-contains, All-pop, Contains-get_or, Contains-push_cases, Contains-append_left, Contains-append_right, slice_get-get_or, slice_get_within, get_or_from_slice_get, same_Some, Need, is_met, are_met, is_need_below, meeting, IsDependent, AreDependents, AreReopened, Dependent}
use Rattle.std.proofs.Common.{length-append}
use Rattle.std.proofs.lemmas.List.FromFn.{get_or-range_with_len, length-range_with_len}
use Rattle.std.proofs.lemmas.List.Sums.{AllPass-from_list_all, list_all-from_AllPass, sum_by-set}
use Rattle.cil_specs.proofs.NamesLemmas.{contains-first, contains-other}

-- what holds of all elements holds of the one at a place
pub all-got : {X : Type 0} (p : X → Bool) (xs : List X) (i : ℕ) (x : X) → list_all p xs ≡ true → slice_get xs i ≡ Some x → p x ≡ true
all-got p xs i x all at = subst (λ y. p y ≡ true) (get_or_from_slice_get xs i x x at) (AllPass-from_list_all p xs all i x (slice_get_within xs i x at))

-- the set of the optionals that are kept
abbrev pub has_kept : List Bool → ℕ → Bool
has_kept kept n = get_or kept n false

-- where one of these was kept, it is the one taken away, or one of them still is
pub any-set : (kept : List Bool) (q : ℕ) (xs : List ℕ) → list_any (has_kept kept) xs ≡ true → Contains xs q ⊎ (list_any (has_kept (set kept q false)) xs ≡ true)
any-set kept q [] any = absurd (true≢false (sym any))
any-set kept q (x ∷ xs) any = by (cases_eq x q) (or_cases (has_kept kept x) (list_any (has_kept kept) xs) any) (any-set kept q xs)
  where
    by : (x ≡ q) ⊎ (x ≡ q → ⊥) → (has_kept kept x ≡ true) ⊎ (list_any (has_kept kept) xs ≡ true)
        → (list_any (has_kept kept) xs ≡ true → Contains xs q ⊎ (list_any (has_kept (set kept q false)) xs ≡ true))
        → Contains (x ∷ xs) q ⊎ ((has_kept (set kept q false) x || list_any (has_kept (set kept q false)) xs) ≡ true)
    by (inl same) is later = inl (subst (Contains (x ∷ xs)) same (contains-first x xs))
    by (inr other) (inl is) later = inr (or_left _ _ (get_or-set_other kept q x false false other ∙ is))
    by (inr other) (inr is) later = elim (later is) [
      | inl has ↦ inl (contains-other x xs q has)
      | inr still ↦ inr (or_right _ _ still)
    ]

-- what wasn't kept still isn't
pub not-set : (kept : List Bool) (q p : ℕ) → q < length kept → not (has_kept kept p) ≡ true → not (has_kept (set kept q false) p) ≡ true
not-set kept q p within is = elim (cases_eq p q) [
  | inl same ↦ ap (λ n. not (has_kept (set kept q false) n)) same ∙ ap not (get_or-set_same kept q false false within)
  | inr other ↦ ap not (get_or-set_other kept q p false false other) ∙ is
]

-- each need is met, or is still to be looked at
abbrev pub AreSettled : List Bool → List Need → List ℕ → Type 0
AreSettled kept needs waiting = (i : ℕ) (need : Need) → slice_get needs i ≡ Some need → IsTrue (is_met (has_kept kept) need) ⊎ Contains waiting i

-- a need that is met was looked at
pub settled-met : (kept : List Bool) (needs : List Need) (before waiting : List ℕ) (i : ℕ) (need : Need) → AreSettled kept needs before → before ≡ waiting ++ i ∷ []
    → slice_get needs i ≡ Some need → is_met (has_kept kept) need ≡ true → AreSettled kept needs waiting
settled-met kept needs before waiting i need settled last here met j other at = elim (settled j other at) [
  | inl is ↦ inl is
  | inr has ↦ elim (Contains-push_cases waiting i j (subst (λ l. Contains l j) last has)) [
    | inl earlier ↦ inr earlier
    | inr same ↦ inl (subst (λ n. is_met (has_kept kept) n ≡ true) (same_Some need other (sym here ∙ ap (slice_get needs) same ∙ at)) met)
  ]
]

-- the optional of a need was taken away, and the needs that it met are to be looked at
pub settled-taken : (kept : List Bool) (needs : List Need) (before waiting after : List ℕ) (i : ℕ) (need : Need) (dependents : List Dependent)
    → AreSettled kept needs before → before ≡ waiting ++ i ∷ [] → slice_get needs i ≡ Some need → need.optional < length kept → AreDependents dependents needs → AreReopened dependents need.optional waiting after
    → AreSettled (set kept need.optional false) needs after
settled-taken kept needs before waiting after i need dependents settled last here within are opened j other at = elim (settled j other at) [
  | inl met ↦ by (or_cases (not (has_kept kept other.optional)) (list_any (has_kept kept) (meeting other)) met)
  | inr has ↦ elim (Contains-push_cases waiting i j (subst (λ l. Contains l j) last has)) [
    | inl earlier ↦ inr (subst (λ l. Contains l j) (sym opened.is) (Contains-append_left waiting opened.more j earlier))
    | inr same ↦ inl (subst (λ n. is_met (has_kept (set kept need.optional false)) n ≡ true) (same_Some need other (sym here ∙ ap (slice_get needs) same ∙ at))
        (or_left _ (list_any (has_kept (set kept need.optional false)) (meeting need)) (ap not (get_or-set_same kept need.optional false false within))))
  ]
]
  where
    by : (not (has_kept kept other.optional) ≡ true) ⊎ (list_any (has_kept kept) (meeting other) ≡ true)
        → IsTrue (is_met (has_kept (set kept need.optional false)) other) ⊎ Contains after j
    by (inl out) = inl (or_left _ _ (not-set kept need.optional other.optional within out))
    by (inr any) = elim (any-set kept need.optional (meeting other) any) [
      | inl has ↦ inr (subst (λ l. Contains l j) (sym opened.is)
          (Contains-append_right waiting opened.more j (opened.all j (All-contains (λ o. IsDependent dependents o j) (meeting other) need.optional (are j other at) has))))
      | inr still ↦ inl (or_right _ _ still)
    ]

-- at first all needs are to be looked at
pub settled-all : (kept : List Bool) (needs : List Need) → AreSettled kept needs (range_with_len 0 (length needs))
settled-all kept needs i need at =
    let low : i < length needs = slice_get_within needs i need at in
    inr (i, omega (arith, length-range_with_len 0 (length needs)), get_or-range_with_len 0 (length needs) i i low ∙ omega arith)

-- once none is to be looked at, all needs are met
pub settled-none : (kept : List Bool) (needs : List Need) → AreSettled kept needs [] → IsTrue (are_met (has_kept kept) needs)
settled-none kept needs settled = list_all-from_AllPass (is_met (has_kept kept)) needs (λ k d within. by k d (settled k (get_or needs k d) (slice_get-get_or needs k d within)))
  where
    by : (k : ℕ) (d : Need) → IsTrue (is_met (has_kept kept) (get_or needs k d)) ⊎ Contains [] k → is_met (has_kept kept) (get_or needs k d) ≡ true
    by k d (inl met) = met
    by k d (inr has) = absurd (omega (arith, has.1))

-- where one set is within another, so are what it has of these
pub any-above : (has kept : ℕ → Bool) (n : ℕ) (xs : List ℕ) → list_all (λ o. nat_lt o n) xs ≡ true → ((o : ℕ) → o < n → has o ≡ true → kept o ≡ true) → list_any has xs ≡ true → list_any kept xs ≡ true
any-above has kept n [] below above any = any
any-above has kept n (x ∷ xs) below above any =
    let parts = and_parts (nat_lt x n) (list_all (λ o. nat_lt o n) xs) below in
    by (ltb-true x n parts.0) (or_cases (has x) (list_any has xs) any) (any-above has kept n xs parts.1 above)
  where
    by : x < n → (has x ≡ true) ⊎ (list_any has xs ≡ true) → (list_any has xs ≡ true → list_any kept xs ≡ true) → (kept x || list_any kept xs) ≡ true
    by low (inl is) later = or_left _ _ (above x low is)
    by low (inr is) later = or_right _ _ (later is)

-- each set in which all needs are met is within what is kept
abbrev pub IsAbove : ℕ → List Bool → List Need → Type 0
IsAbove count kept needs = (has : ℕ → Bool) → IsTrue (are_met has needs) → (n : ℕ) → n ≤ count → IsTrue (has n) → get_or kept n false ≡ true

-- it is, where all optionals are kept
pub above-all : (count : ℕ) (needs : List Need) → IsAbove count (replicate (count + 1) true) needs
above-all count needs has met n le is = get_or-replicate (count + 1) n true false (omega arith)

-- and where an optional was taken away whose need wasn't met
pub above-taken : (count : ℕ) (kept : List Bool) (needs : List Need) (i : ℕ) (need : Need) → IsTrue (list_all (is_need_below (count + 1)) needs) → IsAbove count kept needs
    → slice_get needs i ≡ Some need → is_met (has_kept kept) need ≡ false → IsAbove count (set kept need.optional false) needs
above-taken count kept needs i need below above at unmet has met n le is = elim (cases_eq n need.optional) [
  | inl same ↦ absurd (true≢false (sym (meets same (or_cases (not (has need.optional)) (list_any has (meeting need)) (all-got (is_met has) needs i need met at))) ∙ unmet))
  | inr other ↦ get_or-set_other kept need.optional n false false other ∙ above has met n le is
]
  where
    from : list_all (λ o. nat_lt o (count + 1)) (meeting need) ≡ true
    from = (and_parts (nat_lt need.optional (count + 1)) _ (and_parts (nat_lt 0 need.optional) _ (all-got (is_need_below (count + 1)) needs i need below at)).1).1

    meets : n ≡ need.optional → (not (has need.optional) ≡ true) ⊎ (list_any has (meeting need) ≡ true) → is_met (has_kept kept) need ≡ true
    meets same (inl out) = absurd (true≢false (sym is ∙ ap has same ∙ not-true (has need.optional) out))
    meets same (inr any) = or_right (not (has_kept kept need.optional)) _ (any-above has (has_kept kept) (count + 1) (meeting need) from (λ o low is. above has met o (omega arith) is) any)

-- the optional of a need that isn't met is kept
pub unmet-kept : (has : ℕ → Bool) (need : Need) → is_met has need ≡ false → has need.optional ≡ true
unmet-kept has need unmet = not-false (has need.optional) (or_parts (not (has need.optional)) (list_any has (meeting need)) unmet).0

pub tested-met : (kept lent : List Bool) (need : Need) (result : Bool) → lent ≡ kept → result ≡ not (is_met (has_kept lent) need) → result ≡ false → is_met (has_kept kept) need ≡ true
tested-met kept lent need result same tests is = not-false (is_met (has_kept kept) need) (sym (tests ∙ ap (λ k. not (is_met (has_kept k) need)) same) ∙ is)

pub tested-unmet : (kept lent : List Bool) (need : Need) (result : Bool) → lent ≡ kept → result ≡ not (is_met (has_kept lent) need) → result ≡ true → is_met (has_kept kept) need ≡ false
tested-unmet kept lent need result same tests is = not-true (is_met (has_kept kept) need) (sym (tests ∙ ap (λ k. not (is_met (has_kept k) need)) same) ∙ is)

-- one fewer is kept
pub fewer-kept : (kept : List Bool) (q : ℕ) → q < length kept → get_or kept q false ≡ true → count_by (λ b. b) (set kept q false) + 1 ≡ count_by (λ b. b) kept
fewer-kept kept q within is = let less = sum_by-set (λ b. cond b 1 0) kept q false false within in omega (arith, less, ap {B = ℕ} (λ b. cond b 1 0) is)

-- the measure falls where an optional is taken away, however many needs are to be looked at for it
pub measure-less : (kept : List Bool) (q : ℕ) (dependents : List Dependent) (before waiting after : List ℕ) (i : ℕ) → q < length kept → get_or kept q false ≡ true → before ≡ waiting ++ i ∷ []
    → AreReopened dependents q waiting after
    → count_by (λ b. b) (set kept q false) * length dependents + length after < count_by (λ b. b) kept * length dependents + length before
measure-less kept q dependents before waiting after i within is last opened =
    by (count_by (λ b. b) (set kept q false)) (count_by (λ b. b) kept) (length dependents) opened.few (fewer-kept kept q within is)
  where
    by : (fewer some total : ℕ) → length opened.more ≤ total → fewer + 1 ≡ some → fewer * total + length after < some * total + length before
    by fewer some total part less =
        subst (λ n. fewer * total + length after < n * total + length before) less
        (omega (arith, ap length last ∙ length-append waiting (i ∷ []), ap length opened.is ∙ length-append waiting opened.more))

-- the needs that are opened again are below the number of needs
pub reopened-below : (dependents : List Dependent) (q n : ℕ) (waiting after : List ℕ) → ((o i : ℕ) → IsDependent dependents o i → i < n) → AreReopened dependents q waiting after → All (λ i. i < n) waiting → All (λ i. i < n) after
reopened-below dependents q n waiting after within opened low =
    All-same (λ i. i < n) after (waiting ++ opened.more) opened.is
    (All-append (λ i. i < n) waiting opened.more low (λ k d less. within q (get_or opened.more k d) (opened.within (get_or opened.more k d) (Contains-get_or opened.more k d less))))

-- what is known of a need that is looked at, which was the last of those to be looked at
pub record IsLooked (kept : List Bool) (needs : List Need) (waiting : List ℕ) (i : ℕ) (need : Need) : Type 0 where
  pub rest : All (λ j. j < length needs) waiting
  pub at : slice_get needs i ≡ Some need
  pub below : is_need_below (length kept) need ≡ true
  pub low : 0 < need.optional
  pub within : need.optional < length kept

pub looked : (count : ℕ) (kept : List Bool) (needs : List Need) (before waiting : List ℕ) (i : ℕ) (d : Need) → IsTrue (list_all (is_need_below (count + 1)) needs)
    → length kept ≡ count + 1 → All (λ j. j < length needs) before → before ≡ waiting ++ i ∷ [] → IsLooked kept needs waiting i (get_or needs i d)
looked count kept needs before waiting i d below len all last =
    let need = get_or needs i d in
    let parts = All-pop (λ j. j < length needs) before waiting (Some i) last all in
    let at : slice_get needs i ≡ Some need = slice_get-get_or needs i d parts.1 in
    let here : is_need_below (length kept) need ≡ true = subst (λ n. is_need_below n need ≡ true) (sym len) (all-got (is_need_below (count + 1)) needs i need below at) in
    let tests = and_parts (nat_lt 0 need.optional) _ here in
    record { rest = parts.0; at = at; below = here; low = ltb-true 0 need.optional tests.0; within = ltb-true need.optional (length kept) (and_parts (nat_lt need.optional (length kept)) _ tests.1).0 }

-- the numbers below one are below it
pub range-below : (n : ℕ) → All (λ i. i < n) (range_with_len 0 n)
range-below n k d low =
    let within : k < n = omega (arith, low, length-range_with_len 0 n) in
    let is : get_or (range_with_len 0 n) k d ≡ 0 + k = get_or-range_with_len 0 n k d within in
    omega (arith, is)
