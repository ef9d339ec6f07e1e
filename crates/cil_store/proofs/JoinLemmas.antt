-- The parsed modules of entries, one list of them after another.
use Rattle.cil_store.proofs.Common.{◌≡◌, inl, inr, ◌+◌, ◌<◌, List, ℕ, [], ◌∷◌, ◌++◌, length, get_or, map, take, filter, cond, Bool, true, false, IsTrue, bytes_eq, true≢false, refl, ap, sym, ◌∙◌, subst, AllByRecursion, IsDistinct, IsStrictlySortedBy, IsPermutation, is_lt, ordering_reverse, Less, tied_itself, take_more, name_cmp, names_rise, Entry, Store, is_active, NamedModule, ParsedModule, AreParsedBy, AreParsedOf}
use Rattle.std.specs.Cmp.Lexicographic.{bytes_decides}
use Rattle.std.proofs.lemmas.List.Sorted.{Contains-permutation, IsPermutation-sym}
use Rattle.std.proofs.lemmas.List.Elements.{filter-append}
use Rattle.cil_specs.proofs.ReportLemmas.{name_total, sorted_from_names_rise}
use Rattle.cil_specs.proofs.ReportLemmasMembers.{AnyByRecursion, contains_to, contains_from}
use Rattle.cil_parse.specs.Parsed.{IsParsed}

-- parsed modules of some entries and of others behind them
pub parsed-append : {A X : Type 0} (name : X → List ℕ) (parsed : X → ParsedModule A) (es fs : List Entry) (ms ns : List X) → AreParsedBy name parsed es ms → AreParsedBy name parsed fs ns → AreParsedBy name parsed (es ++ fs) (ms ++ ns)
parsed-append name parsed [] fs [] ns a b = b
parsed-append name parsed [] fs (m ∷ ms) ns a b = absurd a
parsed-append name parsed (e ∷ es) fs [] ns a b = absurd a
parsed-append name parsed (e ∷ es) fs (m ∷ ms) ns a b = (a.0, a.1, parsed-append name parsed es fs ms ns a.2 b)

pub parsed-names : {A : Type 0} (es : List Entry) (ms : List (NamedModule A)) → AreParsedOf es ms → map (λ m. m.name.now) ms ≡ map (λ e. e.name) es
parsed-names [] [] a = refl
parsed-names [] (m ∷ ms) a = absurd a
parsed-names (e ∷ es) [] a = absurd a
parsed-names (e ∷ es) (m ∷ ms) a = λ i. a.0 i ∷ parsed-names es ms a.2 i

-- names that rise differ
unequal : (a b : List ℕ) → name_cmp a b ≡ Less → bytes_eq a b ≡ false
unequal a b less = by (bytes_eq a b) refl
  where
    by : (same : Bool) → bytes_eq a b ≡ same → same ≡ false
    by true is = absurd (true≢false (ap is_lt (sym less ∙ ap (name_cmp a) (sym ((bytes_decides a b).0 is)) ∙ tied_itself name_total a)))
    by false is = refl

unequal-all : {X : Type 0} (f : X → List ℕ) (a : List ℕ) (xs : List X) → AllByRecursion (λ b. name_cmp a b ≡ Less) (map f xs) → AllByRecursion (λ x. bytes_eq a (f x) ≡ false) xs
unequal-all f a [] all = tt
unequal-all f a (x ∷ xs) all = (unequal a (f x) all.0, unequal-all f a xs all.1)

pub distinct-from_sorted : {X : Type 0} (f : X → List ℕ) (xs : List X) → IsStrictlySortedBy name_cmp (map f xs) → IsDistinct (λ x y. bytes_eq (f x) (f y)) xs
unfolding IsStrictlySortedBy IsDistinct
distinct-from_sorted f [] sorted = tt
distinct-from_sorted f (x ∷ xs) sorted = (unequal-all f (f x) xs sorted.0, distinct-from_sorted f xs sorted.1)

abbrev IsIn : {X : Type 0} → X → List X → Type 0
IsIn x xs = AnyByRecursion (λ y. y ≡ x) xs

less-member : {X : Type 0} (f : X → List ℕ) (a : List ℕ) (xs : List X) (x : X) → AllByRecursion (λ b. name_cmp a b ≡ Less) (map f xs) → IsIn x xs → name_cmp a (f x) ≡ Less
less-member f a [] x all is = absurd is
less-member f a (y ∷ xs) x all (inl is) = ap (λ y. name_cmp a (f y)) (sym is) ∙ all.0
less-member f a (y ∷ xs) x all (inr is) = less-member f a xs x all.1 is

not-itself : (a : List ℕ) → name_cmp a a ≡ Less → ⊥
not-itself a less = true≢false (ap is_lt (sym less ∙ tied_itself name_total a))

not-both : (a b : List ℕ) → name_cmp a b ≡ Less → name_cmp b a ≡ Less → ⊥
not-both a b less more = true≢false (ap is_lt (sym more ∙ name_total.antisymm b a ∙ ap ordering_reverse less))

-- the members of the tails of two lists of one first element
tail-in : {X : Type 0} (f : X → List ℕ) (x y z : X) (xs ys : List X) → x ≡ y → AllByRecursion (λ b. name_cmp (f x) b ≡ Less) (map f xs) → IsIn z xs → IsIn z (y ∷ ys) → IsIn z ys
tail-in f x y z xs ys same above is (inl first) = absurd (not-itself (f x) (ap (λ w. name_cmp (f x) (f w)) (same ∙ first) ∙ less-member f (f x) xs z above is))
tail-in f x y z xs ys same above is (inr later) = later

first-same : {X : Type 0} (f : X → List ℕ) (x y : X) (xs ys : List X) → AllByRecursion (λ b. name_cmp (f x) b ≡ Less) (map f xs) → AllByRecursion (λ b. name_cmp (f y) b ≡ Less) (map f ys)
    → IsIn x (y ∷ ys) → IsIn y (x ∷ xs) → x ≡ y
first-same f x y xs ys above beyond (inl is) there = sym is
first-same f x y xs ys above beyond (inr later) (inl is) = is
first-same f x y xs ys above beyond (inr later) (inr more) = absurd (not-both (f x) (f y) (less-member f (f x) xs y above more) (less-member f (f y) ys x beyond later))

-- two lists whose names rise and that have the same elements are one
pub sorted-one : {X : Type 0} (f : X → List ℕ) (xs ys : List X) → IsStrictlySortedBy name_cmp (map f xs) → IsStrictlySortedBy name_cmp (map f ys) → ((x : X) → IsIn x xs → IsIn x ys) → ((x : X) → IsIn x ys → IsIn x xs) → xs ≡ ys
unfolding IsStrictlySortedBy
sorted-one f [] [] sorted rising to back = refl
sorted-one f [] (y ∷ ys) sorted rising to back = absurd (back y (inl refl))
sorted-one f (x ∷ xs) [] sorted rising to back = absurd (to x (inl refl))
sorted-one f (x ∷ xs) (y ∷ ys) sorted rising to back =
    let same = first-same f x y xs ys sorted.0 rising.0 (to x (inl refl)) (back y (inl refl)) in
    let tails = sorted-one f xs ys sorted.1 rising.1 (λ z is. tail-in f x y z xs ys same sorted.0 is (to z (inr is))) (λ z is. tail-in f y x z ys xs (sym same) rising.0 is (back z (inr is))) in
    λ i. same i ∷ tails i

-- a list whose names rise is its only permutation whose names rise
pub permutation-one : {X : Type 0} (f : X → List ℕ) (xs ys : List X) → IsStrictlySortedBy name_cmp (map f xs) → IsTrue (names_rise (map f ys)) → IsPermutation xs ys → ys ≡ xs
permutation-one f xs ys sorted rise moved =
    sym (sorted-one f xs ys sorted (sorted_from_names_rise (map f ys) rise)
    (λ x is. contains_to ys x (Contains-permutation xs ys x moved (contains_from xs x is)))
    (λ x is. contains_to xs x (Contains-permutation ys xs x (IsPermutation-sym xs ys moved) (contains_from ys x is))))

-- things that have the names and the parsed modules of others have those of the same entries
pub parsed-same : {A X Y : Type 0} (name : X → List ℕ) (parsed : X → ParsedModule A) (title : Y → List ℕ) (read : Y → ParsedModule A) (es : List Entry) (xs : List X) (ys : List Y) → map name xs ≡ map title ys → map parsed xs ≡ map read ys
    → AreParsedBy name parsed es xs → AreParsedBy title read es ys
parsed-same name parsed title read [] [] [] names same are = tt
parsed-same name parsed title read [] [] (y ∷ ys) names same are = absurd cc
parsed-same name parsed title read [] (x ∷ xs) ys names same are = absurd are
parsed-same name parsed title read (e ∷ es) [] ys names same are = absurd are
parsed-same name parsed title read (e ∷ es) (x ∷ xs) [] names same are = absurd cc
parsed-same name parsed title read (e ∷ es) (x ∷ xs) (y ∷ ys) names same are =
    let first : name x ≡ title y = cc in
    let later : map name xs ≡ map title ys = cc in
    let one : parsed x ≡ read y = cc in
    let others : map parsed xs ≡ map read ys = cc in
    (sym first ∙ are.0, subst (IsParsed e.text) one are.1, parsed-same name parsed title read es xs ys later others are.2)

-- Which entries are compiled, one after another.
pub active-more : {A X : Type 0} (name : X → List ℕ) (parsed : X → ParsedModule A) (store : Store) (entries : List Entry) (i : ℕ) (d : Entry) (ms : List X) (m : X) → i < length entries → is_active store (get_or entries i d) ≡ true
    → AreParsedBy name parsed (filter (is_active store) (take i entries)) ms → name m ≡ (get_or entries i d).name → IsParsed (get_or entries i d).text (parsed m) → AreParsedBy name parsed (filter (is_active store) (take (i + 1) entries)) (ms ++ m ∷ [])
active-more name parsed store entries i d ms m within is are same text =
    subst (λ es. AreParsedBy name parsed es (ms ++ m ∷ []))
    (sym (ap (filter (is_active store)) (take_more entries i d within) ∙ filter-append (is_active store) (take i entries) (get_or entries i d ∷ []) ∙ ap (λ b. filter (is_active store) (take i entries) ++ cond b (get_or entries i d ∷ []) []) is))
    (parsed-append name parsed (filter (is_active store) (take i entries)) (get_or entries i d ∷ []) ms (m ∷ []) are (same, text, tt))

pub active-same : {A X : Type 0} (name : X → List ℕ) (parsed : X → ParsedModule A) (store : Store) (entries : List Entry) (i : ℕ) (d : Entry) (ms : List X) → i < length entries → is_active store (get_or entries i d) ≡ false
    → AreParsedBy name parsed (filter (is_active store) (take i entries)) ms → AreParsedBy name parsed (filter (is_active store) (take (i + 1) entries)) ms
active-same name parsed store entries i d ms within is are =
    subst (λ es. AreParsedBy name parsed es ms)
    (sym (ap (filter (is_active store)) (take_more entries i d within) ∙ filter-append (is_active store) (take i entries) (get_or entries i d ∷ []) ∙ ap (λ b. filter (is_active store) (take i entries) ++ cond b (get_or entries i d ∷ []) []) is
    ∙ append-none (filter (is_active store) (take i entries))))
    are
  where
    append-none : (xs : List Entry) → xs ++ [] ≡ xs
    append-none [] = refl
    append-none (x ∷ xs) = ap (λ l. x ∷ l) (append-none xs)
