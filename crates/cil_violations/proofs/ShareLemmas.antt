-- Whether two lists share a permission.
use Rattle.cil_violations.proofs.Common.{◌≡◌, ◌∙◌, ℕ, zero, suc, ◌+◌, ◌<◌, ◌≤◌, ◌||◌, Bool, true, false, List, [], ◌∷◌, length, drop, get_or, Contains, refl, sym, ap, subst, arith, add-one, drop-cons, AllByRecursion, IsStrictlySortedBy, Less, all_weaker, drop_all, ClassPermission, AreInOrder, is_among, is_same, permission_cmp, share}
use Rattle.std.proofs.lemmas.List.Folds.{list_any_at, Any-from_list_any}
use Rattle.cil_violations.proofs.PermissionLemmas.{among-from, among-to, is-itself, less-apart, permission-total, same-one}

pub share-from : (first second : List ClassPermission) → share first second ≡ true → (g : ClassPermission) × Contains first g × Contains second g
share-from first second some = by (Any-from_list_any (is_among second) first some)
  where
    by : (k : ℕ) × (g : ClassPermission) × (k < length first) × (get_or first k g ≡ g) × (is_among second g ≡ true)
        → (g : ClassPermission) × Contains first g × Contains second g
    by (k, g, low, is, among) = (g, (k, low, is), among-from second g among)

pub share-to : (first second : List ClassPermission) (g : ClassPermission) → Contains first g → Contains second g → share first second ≡ true
share-to first second g (k, low, is) there = list_any_at (is_among second) first k g low (ap (is_among second) is ∙ among-to second g there)

-- it doesn't matter which is the first
pub share-swap : (first second : List ClassPermission) → share first second ≡ share second first
share-swap first second = same-bool (share first second) (share second first) (one first second) (one second first)
  where
    one : (xs ys : List ClassPermission) → share xs ys ≡ true → share ys xs ≡ true
    one xs ys some = let (g, here, there) = share-from xs ys some in share-to ys xs g there here

    same-bool : (a b : Bool) → (a ≡ true → b ≡ true) → (b ≡ true → a ≡ true) → a ≡ b
    same-bool true b to back = sym (to refl)
    same-bool false true to back = back refl
    same-bool false false to back = refl

-- ---- told from their fronts

-- what is below all of some isn't among them
not-among : (x : ClassPermission) (ys : List ClassPermission) → AllByRecursion (λ y. permission_cmp x y ≡ Less) ys → is_among ys x ≡ false
not-among x [] above = refl
not-among x (y ∷ ys) above = (λ i. less-apart x y above.0 i || not-among x ys above.1 i)

-- nor does one below those of a list make a difference there
passed-second : (y : ClassPermission) (xs ys : List ClassPermission) → AllByRecursion (λ x. permission_cmp y x ≡ Less) xs → share xs (y ∷ ys) ≡ share xs ys
passed-second y [] ys above = refl
passed-second y (x ∷ xs) ys above = (λ i. (apart i || is_among ys x) || passed-second y xs ys above.1 i)
  where
    apart : is_same x y ≡ false
    apart = less-apart-back (is_same x y) refl
      where
        less-apart-back : (b : Bool) → is_same x y ≡ b → b ≡ false
        less-apart-back true same =
            absurd (let none : true ≡ false = sym (ap (λ z. is_same z x) (same-one x y same) ∙ is-itself x) ∙ less-apart y x above.0 in (let bad : ⊥ = cc in bad))
        less-apart-back false same = refl

rest-above : (low x : ClassPermission) (xs : List ClassPermission) → permission_cmp low x ≡ Less → AllByRecursion (λ z. permission_cmp x z ≡ Less) xs
    → AllByRecursion (λ z. permission_cmp low z ≡ Less) xs
rest-above low x xs under above =
    all_weaker (λ z. permission_cmp x z ≡ Less) (λ z. permission_cmp low z ≡ Less) (λ z more. permission-total.trans low x z under more) xs above

-- at the fronts of two lists in order
front-less : (x y : ClassPermission) (xs ys : List ClassPermission) → AreInOrder (y ∷ ys) → permission_cmp x y ≡ Less → share (x ∷ xs) (y ∷ ys) ≡ share xs (y ∷ ys)
unfolding IsStrictlySortedBy
front-less x y xs ys rising under = ap (λ b. b || share xs (y ∷ ys)) (not-among x (y ∷ ys) (under, rest-above x y ys under rising.0))

front-greater : (x y : ClassPermission) (xs ys : List ClassPermission) → AreInOrder (x ∷ xs) → permission_cmp y x ≡ Less → share (x ∷ xs) (y ∷ ys) ≡ share (x ∷ xs) ys
unfolding IsStrictlySortedBy
front-greater x y xs ys rising under = passed-second y (x ∷ xs) ys (under, rest-above y x xs under rising.0)

rising-drop : (xs : List ClassPermission) (n : ℕ) → AreInOrder xs → AreInOrder (drop n xs)
unfolding IsStrictlySortedBy
rising-drop xs zero rising = rising
rising-drop [] (suc n) rising = tt
rising-drop (x ∷ xs) (suc n) rising = rising-drop xs n rising.1

share-none : (xs : List ClassPermission) → share xs [] ≡ false
share-none [] = refl
share-none (x ∷ xs) = share-none xs

from-place : (xs : List ClassPermission) (i : ℕ) (d : ClassPermission) → i < length xs → drop i xs ≡ get_or xs i d ∷ drop (i + 1) xs
from-place xs i d low = drop-cons xs i d low ∙ ap (λ n. get_or xs i d ∷ drop n xs) (sym (add-one i))

rising-from : (xs : List ClassPermission) (i : ℕ) (d : ClassPermission) → i < length xs → AreInOrder xs → AreInOrder (get_or xs i d ∷ drop (i + 1) xs)
rising-from xs i d low rising = subst AreInOrder (from-place xs i d low) (rising-drop xs i rising)

-- and so from places of them on
module _ (first second : List ClassPermission) (i j : ℕ) (d e : ClassPermission) (i_low : i < length first) (j_low : j < length second) where
  here : share (drop i first) (drop j second) ≡ share (get_or first i d ∷ drop (i + 1) first) (get_or second j e ∷ drop (j + 1) second)
  here = λ k. share (from-place first i d i_low k) (from-place second j e j_low k)

  pub share-less : AreInOrder second → permission_cmp (get_or first i d) (get_or second j e) ≡ Less
      → share (drop i first) (drop j second) ≡ share (drop (i + 1) first) (drop j second)
  share-less rising under =
      here
      ∙ front-less (get_or first i d) (get_or second j e) (drop (i + 1) first) (drop (j + 1) second) (rising-from second j e j_low rising) under
      ∙ ap (share (drop (i + 1) first)) (sym (from-place second j e j_low))

  pub share-greater : AreInOrder first → permission_cmp (get_or second j e) (get_or first i d) ≡ Less
      → share (drop i first) (drop j second) ≡ share (drop i first) (drop (j + 1) second)
  share-greater rising under =
      here
      ∙ front-greater (get_or first i d) (get_or second j e) (drop (i + 1) first) (drop (j + 1) second) (rising-from first i d i_low rising) under
      ∙ ap (λ l. share l (drop (j + 1) second)) (sym (from-place first i d i_low))

  pub share-equal : is_same (get_or first i d) (get_or second j e) ≡ true → share (drop i first) (drop j second) ≡ true
  share-equal same =
      here
      ∙ share-to (get_or first i d ∷ drop (i + 1) first) (get_or second j e ∷ drop (j + 1) second) (get_or first i d) (0, omega arith, refl)
      (0, omega arith, same-one (get_or first i d) (get_or second j e) same)

-- none from the end of the second on
pub share-end-second : (first second : List ClassPermission) (i j : ℕ) → length second ≤ j → share (drop i first) (drop j second) ≡ false
share-end-second first second i j past = ap (share (drop i first)) (drop_all j second past) ∙ share-none (drop i first)
