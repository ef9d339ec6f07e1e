-- What stands in a list, by recursion on it, and strictly ascending lists.
use Rattle.cil_specs.proofs.Common.{◌≡◌, ◌⊎◌, inl, inr, zero, suc, ◌+◌, ◌<◌, Bool, true, false, cond, List, [], ◌∷◌, ◌++◌, map, refl, sym, ap, ◌∙◌, subst, arith, Contains, All, AllByRecursion, flat_map, filter, Any, list_any, count_by, IsStrictlySortedBy, Ordering, Less, ltb-true, lt-ltb, true≢false, get_or_default, sum_by-cons}
use Rattle.std.specs.Bool.{IsTrue}
use Rattle.std.specs.Prelude.{nat_lt}
use Rattle.std.proofs.lemmas.List.Elements.{Contains-get_or}
use Rattle.std.proofs.lemmas.List.Folds.{Any-from_list_any, list_any-from_Any}

-- P holds of an element
abbrev pub AnyByRecursion : {X : Type 0} → (X → Type 0) → List X → Type 0
AnyByRecursion P [] = ⊥
AnyByRecursion P (x ∷ xs) = P x ⊎ AnyByRecursion P xs

pub any_to : {X : Type 0} (P : X → Type 0) (xs : List X) → Any P xs → AnyByRecursion P xs
any_to P [] (k, x, within, is, holds) = absurd (omega arith)
any_to P (y ∷ ys) (zero, x, within, is, holds) = inl (subst P (sym is) holds)
any_to P (y ∷ ys) (suc k, x, within, is, holds) = inr (any_to P ys (k, x, omega arith, is, holds))

pub any_from : {X : Type 0} (P : X → Type 0) (xs : List X) → AnyByRecursion P xs → Any P xs
any_from P [] none = absurd none
any_from P (y ∷ ys) (inl holds) = (0, y, omega arith, refl, holds)
any_from P (y ∷ ys) (inr later) = let (k, x, within, is, holds) = any_from P ys later in (suc k, x, omega arith, is, holds)

pub contains_to : {X : Type 0} (xs : List X) (x : X) → Contains xs x → AnyByRecursion (λ y. y ≡ x) xs
contains_to xs x (k, within, is) = any_to (λ y. y ≡ x) xs (k, x, within, is, refl)

pub contains_from : {X : Type 0} (xs : List X) (x : X) → AnyByRecursion (λ y. y ≡ x) xs → Contains xs x
contains_from xs x some = let (k, y, within, is, same) = any_from (λ y. y ≡ x) xs some in (k, within, get_or_default xs k x y within ∙ is ∙ same)

pub any_weaker : {X : Type 0} (P Q : X → Type 0) → ((x : X) → P x → Q x) → (xs : List X) → AnyByRecursion P xs → AnyByRecursion Q xs
any_weaker P Q follows [] none = none
any_weaker P Q follows (x ∷ xs) (inl holds) = inl (follows x holds)
any_weaker P Q follows (x ∷ xs) (inr later) = inr (any_weaker P Q follows xs later)

pub any-map : {X Y : Type 0} (f : X → Y) (P : Y → Type 0) (xs : List X) → AnyByRecursion (λ x. P (f x)) xs → AnyByRecursion P (map f xs)
any-map f P [] none = none
any-map f P (x ∷ xs) (inl holds) = inl holds
any-map f P (x ∷ xs) (inr later) = inr (any-map f P xs later)

pub any_from_map : {X Y : Type 0} (f : X → Y) (P : Y → Type 0) (xs : List X) → AnyByRecursion P (map f xs) → AnyByRecursion (λ x. P (f x)) xs
any_from_map f P [] none = none
any_from_map f P (x ∷ xs) (inl holds) = inl holds
any_from_map f P (x ∷ xs) (inr later) = inr (any_from_map f P xs later)

pub any-append_left : {X : Type 0} (P : X → Type 0) (xs ys : List X) → AnyByRecursion P xs → AnyByRecursion P (xs ++ ys)
any-append_left P [] ys none = absurd none
any-append_left P (x ∷ xs) ys (inl holds) = inl holds
any-append_left P (x ∷ xs) ys (inr later) = inr (any-append_left P xs ys later)

pub any-append_right : {X : Type 0} (P : X → Type 0) (xs ys : List X) → AnyByRecursion P ys → AnyByRecursion P (xs ++ ys)
any-append_right P [] ys some = some
any-append_right P (x ∷ xs) ys some = inr (any-append_right P xs ys some)

pub any-append_cases : {X : Type 0} (P : X → Type 0) (xs ys : List X) → AnyByRecursion P (xs ++ ys) → AnyByRecursion P xs ⊎ AnyByRecursion P ys
any-append_cases P [] ys some = inr some
any-append_cases P (x ∷ xs) ys (inl holds) = inl (inl holds)
any-append_cases P (x ∷ xs) ys (inr later) = elim (any-append_cases P xs ys later) [ inl l ↦ inl (inr l) | inr r ↦ inr r ]

pub any-flat_map : {X Y : Type 0} (f : X → List Y) (P : Y → Type 0) (xs : List X) → AnyByRecursion (λ x. AnyByRecursion P (f x)) xs → AnyByRecursion P (flat_map f xs)
any-flat_map f P [] none = none
any-flat_map f P (x ∷ xs) (inl here) = any-append_left P (f x) (flat_map f xs) here
any-flat_map f P (x ∷ xs) (inr later) = any-append_right P (f x) (flat_map f xs) (any-flat_map f P xs later)

pub any_from_flat_map : {X Y : Type 0} (f : X → List Y) (P : Y → Type 0) (xs : List X) → AnyByRecursion P (flat_map f xs) → AnyByRecursion (λ x. AnyByRecursion P (f x)) xs
any_from_flat_map f P [] none = none
any_from_flat_map f P (x ∷ xs) some = elim (any-append_cases P (f x) (flat_map f xs) some) [ inl here ↦ inl here | inr later ↦ inr (any_from_flat_map f P xs later) ]

pub any-filter : {X : Type 0} (p : X → Bool) (P : X → Type 0) (xs : List X) → AnyByRecursion (λ x. P x × IsTrue (p x)) xs → AnyByRecursion P (filter p xs)
any-filter p P [] none = none
any-filter p P (x ∷ xs) some = by (any-filter p P xs) (p x) refl some
  where
    by : (AnyByRecursion (λ y. P y × IsTrue (p y)) xs → AnyByRecursion P (filter p xs)) → (b : Bool) → p x ≡ b → (P x × IsTrue (p x)) ⊎ AnyByRecursion (λ y. P y × IsTrue (p y)) xs
        → AnyByRecursion P (cond b (x ∷ filter p xs) (filter p xs))
    by rest true is (inl holds) = inl holds.0
    by rest true is (inr later) = inr (rest later)
    by rest false is (inl holds) = absurd (true≢false (sym holds.1 ∙ is))
    by rest false is (inr later) = rest later

pub any_from_filter : {X : Type 0} (p : X → Bool) (P : X → Type 0) (xs : List X) → AnyByRecursion P (filter p xs) → AnyByRecursion (λ x. P x × IsTrue (p x)) xs
any_from_filter p P [] none = none
any_from_filter p P (x ∷ xs) some = by (any_from_filter p P xs) (p x) refl some
  where
    by : (AnyByRecursion P (filter p xs) → AnyByRecursion (λ y. P y × IsTrue (p y)) xs) → (b : Bool) → p x ≡ b → AnyByRecursion P (cond b (x ∷ filter p xs) (filter p xs))
        → (P x × IsTrue (p x)) ⊎ AnyByRecursion (λ y. P y × IsTrue (p y)) xs
    by rest true is (inl holds) = inl (holds, is)
    by rest true is (inr later) = inr (rest later)
    by rest false is some' = inr (rest some')

-- between a test of a list and the fact
pub any_from_test : {X : Type 0} (p : X → Bool) (xs : List X) → IsTrue (list_any p xs) → AnyByRecursion (λ x. IsTrue (p x)) xs
any_from_test p xs passes = any_to (λ x. IsTrue (p x)) xs (Any-from_list_any p xs passes)

pub test_from_any : {X : Type 0} (p : X → Bool) (xs : List X) → AnyByRecursion (λ x. IsTrue (p x)) xs → IsTrue (list_any p xs)
test_from_any p xs some = list_any-from_Any p xs (any_from (λ x. IsTrue (p x)) xs some)

pub any_from_counted : {X : Type 0} (p : X → Bool) (xs : List X) → IsTrue (nat_lt 0 (count_by p xs)) → AnyByRecursion (λ x. IsTrue (p x)) xs
any_from_counted p [] counted = absurd (let none : 0 < 0 = ltb-true 0 0 counted in omega (arith, none))
any_from_counted p (x ∷ xs) counted = by (any_from_counted p xs) (p x) refl
  where
    by : (IsTrue (nat_lt 0 (count_by p xs)) → AnyByRecursion (λ y. IsTrue (p y)) xs) → (b : Bool) → p x ≡ b → IsTrue (p x) ⊎ AnyByRecursion (λ y. IsTrue (p y)) xs
    by rest true passes = inl passes
    by rest false fails =
        let is : count_by p (x ∷ xs) ≡ count_by p xs = sum_by-cons (λ y. cond (p y) 1 0) x xs ∙ ap (λ b. cond b 1 0 + count_by p xs) fails ∙ omega arith in
        let some : 0 < count_by p (x ∷ xs) = ltb-true 0 (count_by p (x ∷ xs)) counted in
        inr (rest (lt-ltb 0 (count_by p xs) (omega (arith, is, some))))

pub all_from_contains : {X : Type 0} (P : X → Type 0) (xs : List X) → ((x : X) → Contains xs x → P x) → All P xs
all_from_contains P xs each = λ k d within. each _ (Contains-get_or xs k d within)

pub all_weaker : {X : Type 0} (P Q : X → Type 0) → ((x : X) → P x → Q x) → (xs : List X) → AllByRecursion P xs → AllByRecursion Q xs
all_weaker P Q follows [] all = tt
all_weaker P Q follows (x ∷ xs) all = (follows x all.0, all_weaker P Q follows xs all.1)

-- an order of images that is the order of the elements: an ascending list stays so
pub sorted_map : {X Y : Type 0} (f : X → Y) (R : X → X → Ordering) (S : Y → Y → Ordering) (P : X → Type 0) → ((x y : X) → P x → P y → S (f x) (f y) ≡ R x y) → (xs : List X) → AllByRecursion P xs
    → IsStrictlySortedBy R xs → IsStrictlySortedBy S (map f xs)
unfolding IsStrictlySortedBy
sorted_map f R S P same [] all sorted = tt
sorted_map f R S P same (x ∷ xs) all sorted = (above xs all.1 sorted.0, sorted_map f R S P same xs all.1 sorted.1)
  where
    above : (ys : _) → AllByRecursion P ys → AllByRecursion (λ y. R x y ≡ Less) ys → AllByRecursion (λ z. S (f x) z ≡ Less) (map f ys)
    above [] ok less = tt
    above (y ∷ ys) ok less = (same x y all.0 ok.0 ∙ less.0, above ys ok.1 less.1)

-- and one whose image ascends, ascends
pub sorted_unmap : {X Y : Type 0} (f : X → Y) (R : X → X → Ordering) (S : Y → Y → Ordering) (P : X → Type 0) → ((x y : X) → P x → P y → S (f x) (f y) ≡ R x y) → (xs : List X) → AllByRecursion P xs
    → IsStrictlySortedBy S (map f xs) → IsStrictlySortedBy R xs
unfolding IsStrictlySortedBy
sorted_unmap f R S P same [] all sorted = tt
sorted_unmap f R S P same (x ∷ xs) all sorted = (above xs all.1 sorted.0, sorted_unmap f R S P same xs all.1 sorted.1)
  where
    above : (ys : _) → AllByRecursion P ys → AllByRecursion (λ z. S (f x) z ≡ Less) (map f ys) → AllByRecursion (λ y. R x y ≡ Less) ys
    above [] ok less = tt
    above (y ∷ ys) ok less = (sym (same x y all.0 ok.0) ∙ less.0, above ys ok.1 less.1)
