-- Lists that ascend, and what stands in them.
use Rattle.cil_accesses.proofs.Common.{◌≡◌, ◌⊎◌, inl, inr, Bool, true, false, cond, List, [], ◌∷◌, ◌++◌, refl, sym, ap, ◌∙◌, subst, arith, Contains, filter, AllByRecursion, IsStrictlySortedBy, Ordering, Less, recursion_from_All, all-append, all-contained, contains-cases, contains-first, contains-other}
use Rattle.std.proofs.Common.{true≢false}
use Rattle.cil_specs.proofs.ReportLemmasMembers.{all_from_contains}

-- by elements, what is stated by recursion
pub all-by : {X : Type 0} (P : X → Type 0) (xs : List X) → ((x : X) → Contains xs x → P x) → AllByRecursion P xs
all-by P xs each = recursion_from_All P xs (all_from_contains P xs each)

-- nothing stands in a list without elements
pub contains-none : {X : Type 0} (x : X) → Contains [] x → ⊥
contains-none x h = let within = h.1 in omega (arith, within)

pub contains-filter : {X : Type 0} (p : X → Bool) (xs : List X) (x : X) → Contains xs x → p x ≡ true → Contains (filter p xs) x
contains-filter p [] x h passes = h
contains-filter p (y ∷ ys) x h passes = by (λ later. contains-filter p ys x later passes) (p y) refl (contains-cases y ys x h)
  where
    by : (Contains ys x → Contains (filter p ys) x) → (b : Bool) → p y ≡ b → (y ≡ x) ⊎ Contains ys x → Contains (cond b (y ∷ filter p ys) (filter p ys)) x
    by rest true is (inl same) = subst (λ z. Contains (y ∷ filter p ys) z) same (contains-first y (filter p ys))
    by rest true is (inr later) = contains-other y (filter p ys) x (rest later)
    by rest false is (inl same) = absurd (true≢false (sym passes ∙ ap p (sym same) ∙ is))
    by rest false is (inr later) = rest later

pub filter-passes : {X : Type 0} (p : X → Bool) (xs : List X) (x : X) → Contains (filter p xs) x → p x ≡ true
filter-passes p [] x h = absurd (contains-none x h)
filter-passes p (y ∷ ys) x h = by (filter-passes p ys x) (p y) refl h
  where
    by : (Contains (filter p ys) x → p x ≡ true) → (b : Bool) → p y ≡ b → Contains (cond b (y ∷ filter p ys) (filter p ys)) x → p x ≡ true
    by rest true is among = elim (contains-cases y (filter p ys) x among) [ inl same ↦ ap p (sym same) ∙ is | inr later ↦ rest later ]
    by rest false is among = rest among

-- a list that ascends, and behind it another that is above it
pub sorted-join : {X : Type 0} (R : X → X → Ordering) (xs ys : List X) → IsStrictlySortedBy R xs → IsStrictlySortedBy R ys → ((x y : X) → Contains xs x → Contains ys y → R x y ≡ Less) → IsStrictlySortedBy R (xs ++ ys)
unfolding IsStrictlySortedBy
sorted-join R [] ys sorted rising across = rising
sorted-join R (x ∷ xs) ys sorted rising across = (
  all-append (λ y. R x y ≡ Less) xs ys sorted.0 (all-by (λ y. R x y ≡ Less) ys (λ y h. across x y (contains-first x xs) h)),
  sorted-join R xs ys sorted.1 rising (λ z y h i. across z y (contains-other x xs z h) i),
)

pub sorted-left : {X : Type 0} (R : X → X → Ordering) (xs ys : List X) → IsStrictlySortedBy R (xs ++ ys) → IsStrictlySortedBy R xs
unfolding IsStrictlySortedBy
sorted-left R [] ys sorted = tt
sorted-left R (x ∷ xs) ys sorted = (front xs sorted.0, sorted-left R xs ys sorted.1)
  where
    front : (zs : _) → AllByRecursion (λ y. R x y ≡ Less) (zs ++ ys) → AllByRecursion (λ y. R x y ≡ Less) zs
    front [] all = tt
    front (z ∷ zs) all = (all.0, front zs all.1)

pub sorted-right : {X : Type 0} (R : X → X → Ordering) (xs ys : List X) → IsStrictlySortedBy R (xs ++ ys) → IsStrictlySortedBy R ys
unfolding IsStrictlySortedBy
sorted-right R [] ys sorted = sorted
sorted-right R (x ∷ xs) ys sorted = sorted-right R xs ys sorted.1

-- the first element is below those after it
pub sorted-first : {X : Type 0} (R : X → X → Ordering) (x : X) (xs : List X) (y : X) → IsStrictlySortedBy R (x ∷ xs) → Contains xs y → R x y ≡ Less
unfolding IsStrictlySortedBy
sorted-first R x xs y sorted h = all-contained (λ z. R x z ≡ Less) xs y sorted.0 h
