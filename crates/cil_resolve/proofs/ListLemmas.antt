-- Tests of the elements of lists.
use Rattle.cil_resolve.proofs.Common.{◌≡◌, ◌∙◌, Bool, true, false, true≢false, inl, inr, any-contained, contains-cases, ◌||◌, List, [], ◌∷◌, ◌++◌, flat_map, map, length, arith, Contains, Some, cond, refl, sym, ap, subst, list_all, list_any, find, or-true, flat_map-append, list_any-append, list_all-append, none-some, same_Some, around, contains-first, contains-other, both_true}
use Rattle.cil_specs.proofs.DeclaredLemmas.{AtMostOne}

-- what passes a test in the list of one element passes it in the list of all
pub any-of-flat : {X Y : Type 0} (p : Y → Bool) (f : X → List Y) (xs : List X) (x : X) → Contains xs x → list_any p (f x) ≡ true → list_any p (flat_map f xs) ≡ true
any-of-flat p f xs x there any =
    let a = around xs x there in
    ap (λ l. list_any p (flat_map f l)) a.whole ∙ ap (list_any p) (flat_map-append f a.before (x ∷ a.after))
    ∙ list_any-append p (flat_map f a.before) (f x ++ flat_map f a.after)
    ∙ ap (λ b. list_any p (flat_map f a.before) || b) (list_any-append p (f x) (flat_map f a.after) ∙ ap (λ b. b || list_any p (flat_map f a.after)) any)
    ∙ or-true (list_any p (flat_map f a.before))

-- all pass it if those of each element do
pub all-of-flat : {X Y : Type 0} (p : Y → Bool) (f : X → List Y) (xs : List X) → ((x : X) → Contains xs x → list_all p (f x) ≡ true) → list_all p (flat_map f xs) ≡ true
all-of-flat p f [] each = refl
all-of-flat p f (x ∷ xs) each =
    list_all-append p (f x) (flat_map f xs)
    ∙ both_true (list_all p (f x)) (list_all p (flat_map f xs)) (each x (contains-first x xs)) (all-of-flat p f xs (λ y there. each y (contains-other x xs y there)))

-- what is found is there
pub find-there : {X : Type 0} (p : X → Bool) (xs : List X) (x : X) → find p xs ≡ Some x → Contains xs x
find-there p [] x e = absurd (none-some x e)
find-there {X = X} p (y ∷ ys) x e = by (p y) e (find-there p ys x)
  where
    by : (b : Bool) → cond b (Some y) (find p ys) ≡ Some x → (find p ys ≡ Some x → Contains ys x) → Contains (y ∷ ys) x
    by true e more = subst (Contains (y ∷ ys)) (same_Some y x e) (contains-first y ys)
    by false e more = contains-other y ys x (more e)

-- what is left of a list decides whether one of its items passes
pub any-here : {X Y : Type 0} (p : Y → Bool) (f : X → Y) (left all more : List X) (x : X) → list_any p (map f left) ≡ list_any p (map f all) → left ≡ x ∷ more → p (f x) ≡ true → true ≡ list_any p (map f all)
any-here p f left all more x so_far split passes = ap (λ b. b || list_any p (map f more)) (sym passes) ∙ ap (λ l. list_any p (map f l)) (sym split) ∙ so_far

pub any-next : {X Y : Type 0} (p : Y → Bool) (f : X → Y) (left all more : List X) (x : X) → list_any p (map f left) ≡ list_any p (map f all) → left ≡ x ∷ more → p (f x) ≡ false
    → list_any p (map f more) ≡ list_any p (map f all)
any-next p f left all more x so_far split fails = ap (λ b. b || list_any p (map f more)) (sym fails) ∙ ap (λ l. list_any p (map f l)) (sym split) ∙ so_far

pub any-none : {X Y : Type 0} (p : Y → Bool) (f : X → Y) (left all : List X) → list_any p (map f left) ≡ list_any p (map f all) → length left ≡ 0 → false ≡ list_any p (map f all)
any-none p f [] all so_far none = so_far
any-none p f (x ∷ left) all so_far none = absurd (omega (arith, none))

-- where at most one passes, two that pass are one
pub one-passes : {X : Type 0} (p : X → Bool) (xs : List X) (x y : X) → AtMostOne p xs → Contains xs x → p x ≡ true → Contains xs y → p y ≡ true → x ≡ y
one-passes p [] x y one there a too b = absurd (omega (arith, there.1))
one-passes p (z ∷ xs) x y one there a too b = elim (contains-cases z xs x there) [
  | inl same ↦ elim (contains-cases z xs y too) [
    | inl also ↦ sym same ∙ also
    | inr behind ↦ absurd (true≢false (sym (any-contained p xs y behind b) ∙ one.0 (ap p same ∙ a)))
  ]
  | inr behind ↦ elim (contains-cases z xs y too) [
    | inl also ↦ absurd (true≢false (sym (any-contained p xs x behind a) ∙ one.0 (ap p also ∙ b)))
    | inr further ↦ one-passes p xs x y one.1 behind a further b
  ]
]
