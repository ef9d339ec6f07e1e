-- Which entries of a store are compiled, by their places.
use Rattle.cil_store_specs.proofs.Common.{◌≡◌, ◌⊎◌, inl, inr, ℕ, zero, suc, ◌-◌, ◌<◌, ◌≤◌, ◌==◌, Bool, true, false, not, ◌&&◌, ◌||◌, nat_le, nat_lt, cond, List, [], ◌∷◌, filter, find, length, map, get_or, bytes_eq, Some, None, Contains, refl, sym, ap, ◌∙◌, subst, true≢false, arith, list_all, list_any, AllByRecursion, IsStrictlySortedBy, nat_cmp, ordering_then, Ordering, Less, Equal, Greater, eqb-true, leb-true, le-leb, ltb-true, ltb-false, nat_list_cmp_total, tied_itself, list_all_at, IsStrictlySortedBy-filter, exact_bytes, bytes_eq-Decides, name_cmp, all-weaker, contains-first, contains-other, passed, contains-filtered, ascends-at, less-or-same, both_true, second_true, entry_at, Entry, Store, entry_cmp, is_highest, active, active_text}
use Rattle.std.specs.Option.{option_map}
use Rattle.cil_store_specs.specs.StoreReport.{is_disabled}
use Rattle.cil_store_specs.proofs.OneFault.{highest-of}

-- whether the entry at a place is the first of its name
abbrev pub is_first_at : List Entry → ℕ → Bool
is_first_at entries i = (i == 0) || not (bytes_eq (get_or entries (i - 1) (entry_at [] 0)).name (get_or entries i (entry_at [] 0)).name)

-- what holds of each item is tested of all
all-at : {X : Type 0} (p : X → Bool) (xs : List X) (d : X) → ((i : ℕ) → i < length xs → p (get_or xs i d) ≡ true) → list_all p xs ≡ true
all-at p [] d h = refl
all-at p (x ∷ xs) d h = both_true (p x) (list_all p xs) (h 0 (omega arith)) (all-at p xs d (λ i within. h (suc i) (omega arith)))

same-name : (a b : List ℕ) → bytes_eq a b ≡ true → a ≡ b
same-name a b e = (bytes_eq-Decides a b).0 e

name-tied : (a b : List ℕ) → a ≡ b → name_cmp a b ≡ Equal
name-tied a b same = ap (name_cmp a) (sym same) ∙ tied_itself nat_list_cmp_total a

lower-priority : (a b : ℕ) → nat_cmp a b ≡ Less → a < b
lower-priority a b e = by (nat_lt a b) refl
  where
    by : (c : Bool) → nat_lt a b ≡ c → a < b
    by true is = ltb-true a b is
    by false is = absurd (not-less (a == b) (sym (ap (λ c. cond c Less (cond (a == b) Equal Greater)) is) ∙ e))
      where
        not-less : (c : Bool) → cond c Equal Greater ≡ Less → ⊥
        not-less true h = cc
        not-less false h = cc

-- an entry before another has a lesser name, or the same name and a higher priority
before-cases : (a b : Entry) → entry_cmp a b ≡ Less → (name_cmp a.name b.name ≡ Less) ⊎ ((a.name ≡ b.name) × (b.priority < a.priority))
before-cases a b e = by (name_cmp a.name b.name) refl e
  where
    by : (o : Ordering) → name_cmp a.name b.name ≡ o → ordering_then o (nat_cmp b.priority a.priority) ≡ Less → (name_cmp a.name b.name ≡ Less) ⊎ ((a.name ≡ b.name) × (b.priority < a.priority))
    by Less is h = inl is
    by Equal is h = inr (exact_bytes a.name b.name is, lower-priority b.priority a.priority h)
    by Greater is h = absurd (cc)

in-order : (a b : ℕ) → (a < b) ⊎ ((a ≡ b) ⊎ (b < a))
in-order a b = by (nat_lt a b) refl (nat_lt b a) refl
  where
    by : (c : Bool) → nat_lt a b ≡ c → (d : Bool) → nat_lt b a ≡ d → (a < b) ⊎ ((a ≡ b) ⊎ (b < a))
    by true is d e = inl (ltb-true a b is)
    by false is true e = inr (inr (ltb-true b a e))
    by false is false e = inr (inl (omega (arith, ltb-false a b is, ltb-false b a e)))

no-first : (j i : ℕ) → j < i → (i == 0) ≡ false
no-first j i less = by (i == 0) refl
  where
    by : (b : Bool) → (i == 0) ≡ b → (i == 0) ≡ false
    by true is = absurd (omega (arith, eqb-true i 0 is))
    by false is = is

some-before : (i : ℕ) → (i == 0) ≡ false → 0 < i
some-before zero is = absurd (true≢false is)
some-before (suc i) is = omega arith

neither : (b c : Bool) → (b || not c) ≡ false → (b ≡ false) × (c ≡ true)
neither true c e = absurd (true≢false e)
neither false true e = (refl, refl)
neither false false e = absurd (true≢false e)

not-at-most : (a b : ℕ) → b < a → nat_le a b ≡ false
not-at-most a b less = by (nat_le a b) refl
  where
    by : (c : Bool) → nat_le a b ≡ c → nat_le a b ≡ false
    by true is = absurd (omega (arith, leb-true a b is))
    by false is = is

not-lesser : (a b : List ℕ) → a ≡ b → name_cmp a b ≡ Less → ⊥
not-lesser a b same less = absurd (let t : Less ≡ Equal = sym less ∙ name-tied a b same in cc)

module _ (entries : List Entry) (sorted : IsStrictlySortedBy entry_cmp entries) where
  at : ℕ → Entry
  at i = get_or entries i (entry_at [] 0)

  -- the entry before one that stands behind another of its name has the name too
  name-between : (j i : ℕ) → j < i → i < length entries → (at j).name ≡ (at i).name → (at (i - 1)).name ≡ (at i).name
  unfolding at
  name-between j i less within same = elim (before-cases (at (i - 1)) (at i) (ascends-at entry_cmp entries (entry_at [] 0) (i - 1) i sorted (omega arith) within)) [
    | inl lesser ↦ absurd (elim (less-or-same j (i - 1) (omega arith)) [
      | inl before ↦ elim (before-cases (at j) (at (i - 1)) (ascends-at entry_cmp entries (entry_at [] 0) j (i - 1) sorted before (omega arith))) [
        | inl less ↦ not-lesser (at j).name (at i).name same (nat_list_cmp_total.trans (at j).name (at (i - 1)).name (at i).name less lesser)
        | inr tied ↦ not-lesser (at j).name (at i).name same (subst (λ n. name_cmp n (at i).name ≡ Less) (sym tied.0) lesser)
      ]
      | inr here ↦ not-lesser (at j).name (at i).name same (subst (λ k. name_cmp (at k).name (at i).name ≡ Less) (sym here) lesser)
    ])
    | inr tied ↦ tied.0
  ]

  none-earlier : (j i : ℕ) → j < i → i < length entries → is_first_at entries i ≡ true → (at j).name ≡ (at i).name → ⊥
  unfolding at
  none-earlier j i less within first same =
      let tied = (bytes_eq-Decides (at (i - 1)).name (at i).name).1 (name-between j i less within same) in
      true≢false (sym first ∙ (λ k. no-first j i less k || not (tied k)))

  -- one of the same name has no higher priority than the first
  no-higher : (j i : ℕ) → j < length entries → i < length entries → is_first_at entries i ≡ true → (at j).name ≡ (at i).name → (at j).priority ≤ (at i).priority
  unfolding at
  no-higher j i inside within first same = elim (in-order j i) [
    | inl less ↦ absurd (none-earlier j i less within first same)
    | inr (inl here) ↦ omega (arith, ap (λ k. (at k).priority) here)
    | inr (inr more) ↦ elim (before-cases (at i) (at j) (ascends-at entry_cmp entries (entry_at [] 0) i j sorted more inside)) [
      | inl less ↦ absurd (not-lesser (at i).name (at j).name (sym same) less)
      | inr tied ↦ omega (arith, tied.1)
    ]
  ]

  test-at : (j i : ℕ) → ((at j).name ≡ (at i).name → (at j).priority ≤ (at i).priority) → (not (bytes_eq (at j).name (at i).name) || nat_le (at j).priority (at i).priority) ≡ true
  test-at j i lower = by (bytes_eq (at j).name (at i).name) refl
    where
      by : (b : Bool) → bytes_eq (at j).name (at i).name ≡ b → (not (bytes_eq (at j).name (at i).name) || nat_le (at j).priority (at i).priority) ≡ true
      by false is = ap (λ c. not c || nat_le (at j).priority (at i).priority) is
      by true is = ap (λ c. not c || nat_le (at j).priority (at i).priority) is ∙ le-leb (at j).priority (at i).priority (lower (same-name (at j).name (at i).name is))

  -- In order the first entry of a name, and no other, has the highest priority of the name.
  pub highest-at : (i : ℕ) → i < length entries → is_highest entries (get_or entries i (entry_at [] 0)) ≡ is_first_at entries i
  unfolding at
  highest-at i within = by (is_first_at entries i) refl
    where
      by : (b : Bool) → is_first_at entries i ≡ b → is_highest entries (at i) ≡ is_first_at entries i
      by true first = all-at (λ o. not (bytes_eq o.name (at i).name) || nat_le o.priority (at i).priority) entries (entry_at [] 0) (λ j inside. test-at j i (no-higher j i inside within first)) ∙ sym first
      by false other = list_all_at (λ o. not (bytes_eq o.name (at i).name) || nat_le o.priority (at i).priority) entries (i - 1) (entry_at [] 0) (omega arith) higher ∙ sym other
        where
          higher : (not (bytes_eq (at (i - 1)).name (at i).name) || nat_le (at (i - 1)).priority (at i).priority) ≡ false
          higher =
              let both = neither (i == 0) (bytes_eq (at (i - 1)).name (at i).name) other in
              let some = some-before i both.0 in
              let lower = elim (before-cases (at (i - 1)) (at i) (ascends-at entry_cmp entries (entry_at [] 0) (i - 1) i sorted (omega arith) within)) as (λ _. (at i).priority < (at (i - 1)).priority) [
                | inl less ↦ absurd (not-lesser (at (i - 1)).name (at i).name (same-name (at (i - 1)).name (at i).name both.1) less)
                | inr tied ↦ tied.1
              ]
              in
              λ k. not (both.1 k) || not-at-most (at (i - 1)).priority (at i).priority lower k

-- entries in order, each of the highest priority of its name, have names that ascend
names-ascend : (entries xs : List Entry) → IsStrictlySortedBy entry_cmp xs → AllByRecursion (λ x. is_highest entries x ≡ true) xs → ((x : Entry) → Contains xs x → Contains entries x) → IsStrictlySortedBy name_cmp (map (λ e. e.name) xs)
unfolding IsStrictlySortedBy
names-ascend entries [] sorted high among = tt
names-ascend entries (x ∷ xs) sorted high among = (behind xs sorted.0 high.1, names-ascend entries xs sorted.1 high.1 (λ y c. among y (contains-other x xs y c)))
  where
    lesser : (y : Entry) → entry_cmp x y ≡ Less → is_highest entries y ≡ true → name_cmp x.name y.name ≡ Less
    lesser y less highest = elim (before-cases x y less) [
      | inl is ↦ is
      | inr tied ↦ absurd (omega (arith, tied.1, highest-of entries y x highest (among x (contains-first x xs)) tied.0))
    ]

    behind : (ys : List Entry) → AllByRecursion (λ y. entry_cmp x y ≡ Less) ys → AllByRecursion (λ y. is_highest entries y ≡ true) ys → AllByRecursion (λ n. name_cmp x.name n ≡ Less) (map (λ e. e.name) ys)
    behind [] less highest = tt
    behind (y ∷ ys) less highest = (lesser y less.0 highest.0, behind ys less.1 highest.1)

-- the names of the entries that are compiled ascend
pub active-ascend : (store : Store) → IsStrictlySortedBy entry_cmp store.entries → IsStrictlySortedBy name_cmp (map (λ e. e.name) (active store))
active-ascend store sorted =
    names-ascend store.entries (active store) (IsStrictlySortedBy-filter entry_cmp test store.entries sorted)
    (all-weaker (λ e. test e ≡ true) (λ e. is_highest store.entries e ≡ true) (λ e passes. second_true (not (list_any (bytes_eq e.name) store.disabled)) (is_highest store.entries e) passes) (active store) (passed test store.entries))
    (λ e c. contains-filtered test store.entries e c)
  where
    test : Entry → Bool
    test = λ e. not (list_any (bytes_eq e.name) store.disabled) && is_highest store.entries e

-- The text of a name that is compiled is that of its first entry.

-- in order the first entry of a name is of its highest priority
found-highest : (entries : List Entry) (name : List ℕ) (x : Entry) → IsStrictlySortedBy entry_cmp entries → find (λ e. bytes_eq e.name name) entries ≡ Some x → (is_highest entries x ≡ true) × (bytes_eq x.name name ≡ true)
unfolding IsStrictlySortedBy
found-highest [] name x sorted found = absurd (cc)
found-highest (y ∷ entries) name x sorted found = by (λ there. found-highest entries name x sorted.1 there) (bytes_eq y.name name) refl
  where
    lower : (ys : List Entry) → AllByRecursion (λ z. entry_cmp y z ≡ Less) ys → list_all (λ o. not (bytes_eq o.name y.name) || nat_le o.priority y.priority) ys ≡ true
    lower [] behind = refl
    lower (z ∷ ys) behind = both_true (not (bytes_eq z.name y.name) || nat_le z.priority y.priority) _ (one (bytes_eq z.name y.name) refl) (lower ys behind.1)
      where
        one : (b : Bool) → bytes_eq z.name y.name ≡ b → (not (bytes_eq z.name y.name) || nat_le z.priority y.priority) ≡ true
        one false is = ap (λ c. not c || nat_le z.priority y.priority) is
        one true is = ap (λ c. not c || nat_le z.priority y.priority) is ∙ le-leb z.priority y.priority (elim (before-cases y z behind.0) [
          | inl less ↦ absurd (not-lesser y.name z.name (sym (same-name z.name y.name is)) less)
          | inr tied ↦ omega (arith, tied.1)
        ])

    itself : (not (bytes_eq y.name y.name) || nat_le y.priority y.priority) ≡ true
    itself = ap (λ c. not c || nat_le y.priority y.priority) ((bytes_eq-Decides y.name y.name).1 refl) ∙ le-leb y.priority y.priority (omega arith)

    by : (find (λ e. bytes_eq e.name name) entries ≡ Some x → (is_highest entries x ≡ true) × (bytes_eq x.name name ≡ true)) → (b : Bool) → bytes_eq y.name name ≡ b → (is_highest (y ∷ entries) x ≡ true) × (bytes_eq x.name name ≡ true)
    by rest true is =
        let same : y ≡ x = let e : Some y ≡ Some x = ap (λ b. cond b (Some y) (find (λ e. bytes_eq e.name name) entries)) (sym is) ∙ found in cc in (
          subst (λ z. is_highest (y ∷ entries) z ≡ true) same (both_true (not (bytes_eq y.name y.name) || nat_le y.priority y.priority) _ itself (lower entries sorted.0)),
          subst (λ z. bytes_eq z.name name ≡ true) same is,
        )
    by rest false is =
        let more = rest (ap (λ b. cond b (Some y) (find (λ e. bytes_eq e.name name) entries)) (sym is) ∙ found) in
        let other : bytes_eq y.name x.name ≡ false = ap (bytes_eq y.name) (same-name x.name name more.1) ∙ is in
        (both_true (not (bytes_eq y.name x.name) || nat_le y.priority x.priority) (is_highest entries x) (ap (λ c. not c || nat_le y.priority x.priority) other) more.0, more.1)

find-kept : (p q : Entry → Bool) (xs : List Entry) → ((x : Entry) → find p xs ≡ Some x → q x ≡ true) → find p (filter q xs) ≡ find p xs
find-kept p q [] good = refl
find-kept p q (x ∷ xs) good = by (λ is. find-kept p q xs (λ y found. good y (ap (λ b. cond b (Some x) (find p xs)) is ∙ found))) (p x) refl (q x) refl
  where
    by : (p x ≡ false → find p (filter q xs) ≡ find p xs) → (b : Bool) → p x ≡ b → (c : Bool) → q x ≡ c → find p (filter q (x ∷ xs)) ≡ find p (x ∷ xs)
    by rest true is true e = ap (λ b. find p (cond b (x ∷ filter q xs) (filter q xs))) e ∙ (λ i. cond (is i) (Some x) (find p (filter q xs))) ∙ ap (λ b. cond b (Some x) (find p xs)) (sym is)
    by rest true is false e = absurd (true≢false (sym (good x (ap (λ b. cond b (Some x) (find p xs)) is)) ∙ e))
    by rest false is true e = ap (λ b. find p (cond b (x ∷ filter q xs) (filter q xs))) e ∙ (λ i. cond (is i) (Some x) (rest is i)) ∙ ap (λ b. cond b (Some x) (find p xs)) (sym is)
    by rest false is false e = ap (λ b. find p (cond b (x ∷ filter q xs) (filter q xs))) e ∙ rest is ∙ ap (λ b. cond b (Some x) (find p xs)) (sym is)

find-none : (p q : Entry → Bool) (xs : List Entry) → ((x : Entry) → p x ≡ true → q x ≡ false) → find p (filter q xs) ≡ None
find-none p q [] bad = refl
find-none p q (x ∷ xs) bad = by (find-none p q xs bad) (p x) refl (q x) refl
  where
    by : find p (filter q xs) ≡ None → (b : Bool) → p x ≡ b → (c : Bool) → q x ≡ c → find p (filter q (x ∷ xs)) ≡ None
    by rest true is true e = absurd (true≢false (sym e ∙ bad x is))
    by rest true is false e = ap (λ b. find p (cond b (x ∷ filter q xs) (filter q xs))) e ∙ rest
    by rest false is true e = ap (λ b. find p (cond b (x ∷ filter q xs) (filter q xs))) e ∙ ap (λ b. cond b (Some x) (find p (filter q xs))) is ∙ rest
    by rest false is false e = ap (λ b. find p (cond b (x ∷ filter q xs) (filter q xs))) e ∙ rest

pub active-first : (store : Store) (name : List ℕ) → IsStrictlySortedBy entry_cmp store.entries → is_disabled store name ≡ false → active_text store name ≡ option_map (λ e. e.text) (find (λ e. bytes_eq e.name name) store.entries)
active-first store name sorted enabled =
    ap (option_map (λ (e : Entry). e.text)) (find-kept (λ e. bytes_eq e.name name) (λ e. not (list_any (bytes_eq e.name) store.disabled) && is_highest store.entries e) store.entries
    (λ x found. let h = found-highest store.entries name x sorted found in
    both_true (not (list_any (bytes_eq x.name) store.disabled)) (is_highest store.entries x) (ap not (ap (λ n. list_any (bytes_eq n) store.disabled) (same-name x.name name h.1) ∙ enabled)) h.0))

pub active-none : (store : Store) (name : List ℕ) → is_disabled store name ≡ true → active_text store name ≡ None
active-none store name disabled =
    ap (option_map (λ (e : Entry). e.text)) (find-none (λ e. bytes_eq e.name name) (λ e. not (list_any (bytes_eq e.name) store.disabled) && is_highest store.entries e) store.entries
    (λ x named. ap (λ b. not b && is_highest store.entries x) (ap (λ n. list_any (bytes_eq n) store.disabled) (same-name x.name name named) ∙ disabled)))
