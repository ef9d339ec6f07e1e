-- The first group of a list, and those after it.
use Rattle.cil_accesses.proofs.Common.{◌≡◌, ℕ, suc, ◌+◌, ◌≤◌, Bool, true, false, cond, List, [], ◌∷◌, ◌++◌, length, take, drop, flat_map, slice_get, Some, None, refl, sym, ap, ◌∙◌, arith, one-add, Contains, AllByRecursion, prefix_len, eq_by_cmp, is_eq, IsTotalOrder, Ordering, tied_itself, take-append-drop, length-append, take_at, drop_at, contains-first, contains-other, equal-is, put_first, groups_of, IsFirstGroup}
use Rattle.std.proofs.lemmas.List.Folds.{length-prefix_len}

-- groups have the elements of their list
joined-put_first : {X : Type 0} (alike : X → X → Bool) (x : X) (groups : List (List X)) → flat_map (λ group. group) (put_first alike x groups) ≡ x ∷ flat_map (λ group. group) groups
joined-put_first alike x [] = refl
joined-put_first alike x ([] ∷ groups) = refl
joined-put_first alike x ((y ∷ group) ∷ groups) = by (alike x y)
  where
    by : (b : Bool) → flat_map (λ l. l) (cond b ((x ∷ y ∷ group) ∷ groups) ((x ∷ []) ∷ (y ∷ group) ∷ groups)) ≡ x ∷ flat_map (λ l. l) ((y ∷ group) ∷ groups)
    by true = refl
    by false = refl

pub joined-groups_of : {X : Type 0} (alike : X → X → Bool) (xs : List X) → flat_map (λ group. group) (groups_of alike xs) ≡ xs
joined-groups_of alike [] = refl
joined-groups_of alike (x ∷ xs) = joined-put_first alike x (groups_of alike xs) ∙ ap (λ l. x ∷ l) (joined-groups_of alike xs)

-- where a prefix that passes ends, the next element does not
pub prefix-ends : {X : Type 0} (p : X → Bool) (xs : List X) (y : X) (ys : List X) → length xs ≡ prefix_len p (xs ++ y ∷ ys) → p y ≡ false
prefix-ends p [] y ys long = by (p y) refl long
  where
    by : (b : Bool) → p y ≡ b → 0 ≡ cond b (1 + prefix_len p ys) 0 → p y ≡ false
    by true is e = absurd (omega (arith, e))
    by false is e = is
prefix-ends p (x ∷ xs) y ys long = by (prefix-ends p xs y ys) (p x) refl long
  where
    by : (length xs ≡ prefix_len p (xs ++ y ∷ ys) → p y ≡ false) → (b : Bool) → p x ≡ b → suc (length xs) ≡ cond b (1 + prefix_len p (xs ++ y ∷ ys)) 0 → p y ≡ false
    by rest true is e = rest (omega (arith, e))
    by rest false is e = absurd (omega (arith, e))

pub prefix-passes : {X : Type 0} (p : X → Bool) (xs ys : List X) → length xs ≡ prefix_len p (xs ++ ys) → AllByRecursion (λ x. p x ≡ true) xs
prefix-passes p [] ys long = tt
prefix-passes p (x ∷ xs) ys long = by (prefix-passes p xs ys) (p x) refl long
  where
    by : (length xs ≡ prefix_len p (xs ++ ys) → AllByRecursion (λ z. p z ≡ true) xs) → (b : Bool) → p x ≡ b → suc (length xs) ≡ cond b (1 + prefix_len p (xs ++ ys)) 0 → (p x ≡ true) × AllByRecursion (λ x. p x ≡ true) xs
    by rest true is e = (is, rest (omega (arith, e)))
    by rest false is e = absurd (omega (arith, e))

-- a prefix that passes, before elements none of which does
pub prefix-is : {X : Type 0} (p : X → Bool) (xs ys : List X) → ((x : X) → Contains xs x → p x ≡ true) → ((y : X) → Contains ys y → p y ≡ false) → length xs ≡ prefix_len p (xs ++ ys)
prefix-is p [] [] passes fails = refl
prefix-is p [] (y ∷ ys) passes fails = sym (ap (λ b. cond b (1 + prefix_len p ys) 0) (fails y (contains-first y ys)))
prefix-is p (x ∷ xs) ys passes fails =
    ap suc (prefix-is p xs ys (λ z h. passes z (contains-other x xs z h)) fails) ∙ sym (one-add (prefix_len p (xs ++ ys))) ∙ sym (ap (λ b. cond b (1 + prefix_len p (xs ++ ys)) 0) (passes x (contains-first x xs)))

-- the later elements are fewer
pub group-shorter : {X : Type 0} (alike : X → X → Bool) (xs : List X) (first : X) (group later : List X) → IsFirstGroup alike xs first group later → 1 + length later ≤ length xs
group-shorter alike xs first group later parts =
    let whole = ap length parts.whole ∙ length-append group later in
    let some = ap length parts.some.1 in
    omega (arith, whole, some)

-- where those are alike that an order does not tell apart
module _ {X : Type 0} {R : X → X → Ordering} (total : IsTotalOrder R) where
  pub alike-own : (x : X) → eq_by_cmp R x x ≡ true
  alike-own x = ap is_eq (tied_itself total x)

  -- elements of one group have the same elements in their group
  same-group : (x y : X) → eq_by_cmp R x y ≡ true → eq_by_cmp R x ≡ eq_by_cmp R y
  same-group x y e = λ i z. is_eq (total.congr x y z (equal-is (R x y) e) i)

  -- the first group has the elements from the front that stand in it
  groups-behind : (x : X) (xs : List X) → groups_of (eq_by_cmp R) (x ∷ xs) ≡ (x ∷ take (prefix_len (eq_by_cmp R x) xs) xs) ∷ groups_of (eq_by_cmp R) (drop (prefix_len (eq_by_cmp R x) xs) xs)
  groups-behind x [] = refl
  groups-behind x (y ∷ xs) = by (eq_by_cmp R x y) refl (groups-behind y xs)
    where
      by : (b : Bool) → eq_by_cmp R x y ≡ b → groups_of (eq_by_cmp R) (y ∷ xs) ≡ (y ∷ take (prefix_len (eq_by_cmp R y) xs) xs) ∷ groups_of (eq_by_cmp R) (drop (prefix_len (eq_by_cmp R y) xs) xs)
          → groups_of (eq_by_cmp R) (x ∷ y ∷ xs) ≡ (x ∷ take (cond b (1 + prefix_len (eq_by_cmp R x) xs) 0) (y ∷ xs)) ∷ groups_of (eq_by_cmp R) (drop (cond b (1 + prefix_len (eq_by_cmp R x) xs) 0) (y ∷ xs))
      by true same rest =
          let n : ℕ = prefix_len (eq_by_cmp R y) xs in
          ap (put_first (eq_by_cmp R) x) rest
          ∙ ap (λ b. cond b ((x ∷ y ∷ take n xs) ∷ groups_of (eq_by_cmp R) (drop n xs)) ((x ∷ []) ∷ (y ∷ take n xs) ∷ groups_of (eq_by_cmp R) (drop n xs))) same
          ∙ ap (λ (test : X → Bool). (x ∷ y ∷ take (prefix_len test xs) xs) ∷ groups_of (eq_by_cmp R) (drop (prefix_len test xs) xs)) (sym (same-group x y same))
          ∙ ap (λ k. (x ∷ take k (y ∷ xs)) ∷ groups_of (eq_by_cmp R) (drop k (y ∷ xs))) (sym (one-add (prefix_len (eq_by_cmp R x) xs)))
      by false other rest =
          let n : ℕ = prefix_len (eq_by_cmp R y) xs in
          ap (put_first (eq_by_cmp R) x) rest
          ∙ ap (λ b. cond b ((x ∷ y ∷ take n xs) ∷ groups_of (eq_by_cmp R) (drop n xs)) ((x ∷ []) ∷ (y ∷ take n xs) ∷ groups_of (eq_by_cmp R) (drop n xs))) other
          ∙ ap (λ l. (x ∷ []) ∷ l) (sym rest)

  groups-front : (x : X) (xs : List X) → groups_of (eq_by_cmp R) (x ∷ xs) ≡ take (prefix_len (eq_by_cmp R x) (x ∷ xs)) (x ∷ xs) ∷ groups_of (eq_by_cmp R) (drop (prefix_len (eq_by_cmp R x) (x ∷ xs)) (x ∷ xs))
  groups-front x xs =
      let n : ℕ = prefix_len (eq_by_cmp R x) xs in
      groups-behind x xs
      ∙ ap (λ k. take k (x ∷ xs) ∷ groups_of (eq_by_cmp R) (drop k (x ∷ xs))) (sym (one-add n))
      ∙ ap (λ b. take (cond b (1 + n) 0) (x ∷ xs) ∷ groups_of (eq_by_cmp R) (drop (cond b (1 + n) 0) (x ∷ xs))) (sym (alike-own x))

  -- there is a first group
  pub first-group : (x : X) (xs : List X) → IsFirstGroup (eq_by_cmp R) (x ∷ xs) x (x ∷ take (prefix_len (eq_by_cmp R x) xs) xs) (drop (prefix_len (eq_by_cmp R x) xs) xs)
  first-group x xs =
      let n : ℕ = prefix_len (eq_by_cmp R x) xs in
      record {
        whole = ap (λ l. x ∷ l) (sym (take-append-drop n xs));
        some = (take n xs, refl);
        all = ap suc (length-prefix_len (eq_by_cmp R x) xs) ∙ sym (one-add n) ∙ ap (λ b. cond b (1 + n) 0) (sym (alike-own x));
      }

  -- the groups are the first group, and those of the later elements
  pub groups-parts : (xs : List X) (first : X) (group later : List X) → IsFirstGroup (eq_by_cmp R) xs first group later → groups_of (eq_by_cmp R) xs ≡ group ∷ groups_of (eq_by_cmp R) later
  groups-parts xs first group later parts =
      let tail : List X = parts.some.0 ++ later in
      let is : xs ≡ first ∷ tail = parts.whole ∙ ap (λ l. l ++ later) parts.some.1 in
      let n : ℕ = prefix_len (eq_by_cmp R first) (first ∷ tail) in
      let long : length group ≡ n = parts.all ∙ ap (prefix_len (eq_by_cmp R first)) is in
      let joined : first ∷ tail ≡ group ++ later = sym is ∙ parts.whole in
      let front : take n (first ∷ tail) ≡ group = ap (take n) joined ∙ take_at group later n long in
      let back : drop n (first ∷ tail) ≡ later = ap (drop n) joined ∙ drop_at group later n long in
      ap (groups_of (eq_by_cmp R)) is ∙ groups-front first tail ∙ (λ i. front i ∷ groups_of (eq_by_cmp R) (back i))

  -- the elements from the front that stand in the group of the first, and the others
  pub group-front : (xs : List X) (first : X) (n : ℕ) (group later : List X) → Some first ≡ slice_get xs 0 → n ≡ prefix_len (eq_by_cmp R first) xs → group ≡ take n xs → later ≡ drop n xs → length group ≡ n
      → IsFirstGroup (eq_by_cmp R) xs first group later
  group-front xs first n group later is count front back long = record {
    whole = sym (take-append-drop n xs) ∙ (λ i. sym front i ++ sym back i);
    some = by xs is count front;
    all = long ∙ count;
  }
    where
      by : (ys : List X) → Some first ≡ slice_get ys 0 → n ≡ prefix_len (eq_by_cmp R first) ys → group ≡ take n ys → (rest : List X) × (group ≡ first ∷ rest)
      by [] is count front = absurd (let none : Some first ≡ None = is in cc)
      by (x ∷ ys) is count front =
          let same : first ≡ x = cc in
          let own : eq_by_cmp R first x ≡ true = ap (eq_by_cmp R first) (sym same) ∙ alike-own first in
          let k : ℕ = prefix_len (eq_by_cmp R first) ys in
          let more : n ≡ suc k = count ∙ ap (λ b. cond b (1 + k) 0) own ∙ one-add k in
          (take k ys, front ∙ ap (λ m. take m (x ∷ ys)) more ∙ ap (λ y. y ∷ take k ys) (sym same))
