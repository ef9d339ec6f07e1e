-- What is listed and given the other way round.
use Rattle.cil_optionals.proofs.Common.{◌≡◌, ℕ, zero, suc, ◌<◌, ◌==◌, ◌&&◌, ◌||◌, Bool, true, false, List, [], ◌∷◌, ◌++◌, length, set, position, replicate, get_or, slice_get, Option, Some, None, is_some, Vec, Result, Ok, Err, OnOk, OnErr, bytes_eq, refl, sym, ap, ◌∙◌, true≢false, arith, inl, inr, if◌then◌else◌, subst, list_any, option_or, option_and_then, eqb-true, eq-eqb, ne_eqb, cases_eq, list_any-append, position-Some, none-some, same_Some, bytes_eq-Decides, first_true, second_true, has_name, with_name, at_if, position-append, any-position, lists, places_in, commons_at, listers_at, has_gift, given_at, IsInverse, AreAnswers, AreRecent, Permission}
use Rattle.std.proofs.Math.Bool.{or-false}
use Rattle.indexmap.specs.IndexSet.{insert_key}
use Rattle.cil_optionals.specs.declared.listed.Gift.{Gift}
use Rattle.cil_optionals.specs.declared.listed.Listed.{Listed}
use Rattle.cil_optionals.specs.contracts.listed.GiftPartialEq.TheImpl as gift_eq
use Rattle.cil_optionals.specs.contracts.listed.PermissionPartialEq.TheImpl as permission_eq
use Rattle.cil_needs.proofs.ListLemmas.{get-set_same, get-set_other}
use Rattle.cil_optionals.proofs.PermissionLemmas.{lists-insert}

any-none : {X : Type 0} (xs : List X) → list_any (λ x. false) xs ≡ false
any-none [] = refl
any-none (x ∷ xs) = any-none xs

any-or : {X : Type 0} (p q : X → Bool) (xs : List X) → list_any (λ x. p x || q x) xs ≡ (list_any p xs || list_any q xs)
any-or p q [] = refl
any-or p q (x ∷ xs) = ap (λ b. (p x || q x) || b) (any-or p q xs) ∙ by (p x) (q x) (list_any p xs) (list_any q xs)
  where
    by : (a b c d : Bool) → ((a || b) || (c || d)) ≡ ((a || c) || (b || d))
    by true b c d = refl
    by false true true d = refl
    by false true false d = refl
    by false false c d = refl

eq-turn : (m n : ℕ) → (m == n) ≡ (n == m)
eq-turn m n = elim (cases_eq m n) [
  | inl same ↦ eq-eqb m n same ∙ sym (eq-eqb n m (sym same))
  | inr other ↦ ne_eqb m n other ∙ sym (ne_eqb n m (λ e. other (sym e)))
]

-- whether two lists have an element in common, from either side
meet-turn : (xs ys : List ℕ) → list_any (λ x. list_any (λ y. x == y) ys) xs ≡ list_any (λ y. list_any (λ x. y == x) xs) ys
meet-turn [] ys = sym (any-none ys)
meet-turn (x ∷ xs) ys = (λ k. list_any (λ y. eq-turn x y k) ys || meet-turn xs ys k) ∙ sym (any-or (λ y. y == x) (λ y. list_any (λ z. y == z) xs) ys)

-- the statements that list a name are asked in place of the commons that are given
pub by-listers : {A : Type 0} (p : Listed A) (the_class : ℕ) (name : List ℕ) → IsInverse p
    → list_any (λ c. has_gift p.gifts.keys the_class c) (listers_at p.names p.listers.items name) ≡ list_any (λ c. lists p.listed.keys c name) (commons_at p.given.items the_class)
by-listers p the_class name is =
    (λ k. list_any (λ c. is.gifts the_class c k) (listers_at p.names p.listers.items name)) ∙ meet-turn (listers_at p.names p.listers.items name) (commons_at p.given.items the_class)
    ∙ (λ k. list_any (λ c. is.listers c name k) (commons_at p.given.items the_class))

get-low : {X : Type 0} (xs ys : List X) (n : ℕ) → n < length xs → slice_get (xs ++ ys) n ≡ slice_get xs n
get-low [] ys n low = absurd (omega (arith, low))
get-low (x ∷ xs) ys zero low = refl
get-low (x ∷ xs) ys (suc n) low = get-low xs ys n (omega (arith, low))

get-last : {X : Type 0} (xs : List X) (x : X) → slice_get (xs ++ x ∷ []) (length xs) ≡ Some x
get-last [] x = refl
get-last (y ∷ xs) x = get-last xs x

-- where there is no place no common is given
pub commons-empty : {A : Type 0} (given : List (Vec ℕ A)) → given ≡ [] → (i : ℕ) → commons_at given i ≡ []
commons-empty {A} given none i = ap (λ l. commons_at l i) none ∙ by i
  where
    by : (j : ℕ) → commons_at {A = A} [] j ≡ []
    by zero = refl
    by (suc j) = refl

-- one more place to which no common is given
pub commons-kept : {A : Type 0} (given after : List (Vec ℕ A)) (new : Vec ℕ A) → after ≡ given ++ new ∷ [] → new.items ≡ [] → (i : ℕ) → commons_at after i ≡ commons_at given i
commons-kept {A} given after new more empty i = ap (λ l. commons_at l i) more ∙ by given i
  where
    by : (xs : List (Vec ℕ A)) (j : ℕ) → commons_at (xs ++ new ∷ []) j ≡ commons_at xs j
    by [] zero = empty
    by [] (suc j) = refl
    by (x ∷ xs) zero = refl
    by (x ∷ xs) (suc j) = by xs j

-- nothing is taken up
pub inverse-none : {A : Type 0} (p : Listed A) → p.listed.keys ≡ [] → p.gifts.keys ≡ [] → p.names ≡ [] → p.listers.items ≡ [] → ((i : ℕ) → commons_at p.given.items i ≡ []) → IsInverse p
inverse-none p no_keys no_gifts no_names no_listers empty = record {
  gifts = λ i c. ap (λ l. has_gift l i c) no_gifts ∙ sym (ap (list_any (λ d. c == d)) (empty i));
  listers = λ i name. (λ k. list_any (λ q. i == q) (listers_at (no_names k) (no_listers k) name)) ∙ sym (ap (λ l. lists l i name) no_keys);
  long = ap length no_names ∙ sym (ap length no_listers);
}

-- a name that isn't found is none of them
pub missing : (names : List (List ℕ)) (name : List ℕ) (found : Option ℕ) → found ≡ position (bytes_eq name) names → ((n : ℕ) → found ≡ Some n → ⊥) → has_name names name ≡ false
missing names name None is none = any-position (bytes_eq name) names ∙ ap is_some (sym is)
missing names name (Some n) is none = absurd (none n refl)

-- with it there is one name more
pub with-new : (names : List (List ℕ)) (name : List ℕ) → has_name names name ≡ false → with_name names name ≡ names ++ name ∷ []
with-new names name new = ap (λ b. if b then names else names ++ name ∷ []) new

-- a new name, which no statement lists
pub number-new : {A : Type 0} (names : List (List ℕ)) (listers : List (Vec ℕ A)) (w : List ℕ) (v : Vec ℕ A) → length names ≡ length listers → v.items ≡ [] → (other : List ℕ)
    → listers_at (names ++ w ∷ []) (listers ++ v ∷ []) other ≡ listers_at names listers other
number-new {A} names listers w v long none other = ap (λ o. places_in (option_and_then (slice_get (listers ++ v ∷ [])) o)) (position-append test names w) ∙ by (position test names) refl
  where
    test : List ℕ → Bool
    test n = bytes_eq other n

    last : (b : Bool) → places_in (option_and_then (slice_get (listers ++ v ∷ [])) (at_if b (length names))) ≡ []
    last true = ap (λ n. places_in (slice_get (listers ++ v ∷ []) n)) long ∙ ap places_in (get-last listers v) ∙ none
    last false = refl

    by : (o : Option ℕ) → position test names ≡ o → places_in (option_and_then (slice_get (listers ++ v ∷ [])) (option_or o (at_if (test w) (length names)))) ≡ places_in (option_and_then (slice_get listers) o)
    by (Some n) e = ap places_in (get-low listers (v ∷ []) n (let low = (position-Some test names n w e).0 in omega (arith, low, long)))
    by None e = last (test w)

pub number-named : (names : List (List ℕ)) (w : List ℕ) → list_any (bytes_eq w) names ≡ false → position (bytes_eq w) (names ++ w ∷ []) ≡ Some (length names)
number-named names w absent =
    position-append (bytes_eq w) names w ∙ ap (λ o. option_or o (at_if (bytes_eq w w) (length names))) (none (position (bytes_eq w) names) (sym (any-position (bytes_eq w) names) ∙ absent))
    ∙ ap (λ b. at_if b (length names)) ((bytes_eq-Decides w w).1 refl)
  where
    none : (o : Option ℕ) → is_some o ≡ false → o ≡ None
    none None e = refl
    none (Some n) e = absurd (true≢false e)

-- one statement more that lists a name
listers-push : {A : Type 0} (names : List (List ℕ)) (listers : List (Vec ℕ A)) (name : List ℕ) (d : List ℕ) (number place : ℕ) (v w : Vec ℕ A) → position (bytes_eq name) names ≡ Some number
    → slice_get listers number ≡ Some v → w.items ≡ v.items ++ place ∷ [] → (other : List ℕ)
    → listers_at names (set listers number w) other ≡ listers_at names listers other ++ (if bytes_eq other name then place ∷ [] else [])
listers-push {A} names listers name d number place v w named at more other = by (bytes_eq other name) refl
  where
    same-one : (n : ℕ) → n ≡ number → position (bytes_eq other) names ≡ Some n → bytes_eq other name ≡ true
    same-one n e found =
        let there = (position-Some (bytes_eq other) names n d found).1 in
        let here = (position-Some (bytes_eq name) names number d named).1 in
        (bytes_eq-Decides other name).1 ((bytes_eq-Decides other (get_or names n d)).0 there ∙ ap (λ k. get_or names k d) e ∙ sym ((bytes_eq-Decides name (get_or names number d)).0 here))

    keep : (xs : List ℕ) → xs ≡ xs ++ []
    keep [] = refl
    keep (x ∷ xs) = ap (λ l. x ∷ l) (keep xs)

    elsewhere : (o : Option ℕ) → position (bytes_eq other) names ≡ o → bytes_eq other name ≡ false → places_in (option_and_then (slice_get (set listers number w)) o) ≡ places_in (option_and_then (slice_get listers) o)
    elsewhere None e isnt = refl
    elsewhere (Some n) e isnt = ap places_in (get-set_other listers number n w (λ same. true≢false (sym (same-one n same e) ∙ isnt)))

    by : (b : Bool) → bytes_eq other name ≡ b → listers_at names (set listers number w) other ≡ listers_at names listers other ++ (if b then place ∷ [] else [])
    by true e =
        let found : position (bytes_eq other) names ≡ Some number = ap (λ text. position (bytes_eq text) names) ((bytes_eq-Decides other name).0 e) ∙ named in
        ap (λ o. places_in (option_and_then (slice_get (set listers number w)) o)) found ∙ ap places_in (get-set_same listers number v w at) ∙ more
        ∙ ap (λ o. places_in o ++ place ∷ []) (sym at) ∙ ap (λ o. places_in (option_and_then (slice_get listers) o) ++ place ∷ []) (sym found)
    by false e = elsewhere (position (bytes_eq other) names) refl e ∙ keep (listers_at names listers other)

any-one : (b : Bool) (place i : ℕ) → list_any (λ other. i == other) (if b then place ∷ [] else []) ≡ ((i == place) && b)
any-one true place i = or-false (i == place) ∙ sym (and-true (i == place))
  where
    and-true : (b : Bool) → (b && true) ≡ b
    and-true true = refl
    and-true false = refl
any-one false place i = sym (and-false (i == place))
  where
    and-false : (b : Bool) → (b && false) ≡ false
    and-false true = refl
    and-false false = refl

pub listers-insert : {A : Type 0} (names : List (List ℕ)) (listers : List (Vec ℕ A)) (old new : List Permission) (name : List ℕ) (d : List ℕ) (number place : ℕ) (v w : Vec ℕ A) → position (bytes_eq name) names ≡ Some number
    → slice_get listers number ≡ Some v → w.items ≡ v.items ++ place ∷ []
    → ((i : ℕ) (other : List ℕ) → list_any (λ q. i == q) (listers_at names listers other) ≡ lists old i other)
    → ((i : ℕ) (other : List ℕ) → lists new i other ≡ (lists old i other || (i == place && bytes_eq other name)))
    → (i : ℕ) (other : List ℕ) → list_any (λ q. i == q) (listers_at names (set listers number w) other) ≡ lists new i other
listers-insert names listers old new name d number place v w named at more so_far listed i other =
    ap (list_any (λ q. i == q)) (listers-push names listers name d number place v w named at more other)
    ∙ list_any-append (λ q. i == q) (listers_at names listers other) (if bytes_eq other name then place ∷ [] else [])
    ∙ (λ k. so_far i other k || any-one (bytes_eq other name) place i k) ∙ sym (listed i other)

-- one common more that is given to a class
pub given-push : {A : Type 0} (given : List (Vec ℕ A)) (k common : ℕ) (v w : Vec ℕ A) → slice_get given k ≡ Some v → w.items ≡ v.items ++ common ∷ [] → (i : ℕ)
    → commons_at (set given k w) i ≡ commons_at given i ++ given_at (Some (k, common)) i
given-push given k common v w at more i = elim (cases_eq i k) [
  | inl same ↦ ap (λ j. places_in (slice_get (set given k w) j)) same ∙ ap places_in (get-set_same given k v w at) ∙ more ∙ ap (λ o. places_in o ++ common ∷ []) (sym at)
      ∙ ap (λ j. places_in (slice_get given j) ++ common ∷ []) (sym same) ∙ ap (λ b. commons_at given i ++ (if b then common ∷ [] else [])) (sym (eq-eqb i k same))
  | inr other ↦ ap places_in (get-set_other given k i w other) ∙ keep (commons_at given i) ∙ ap (λ b. commons_at given i ++ (if b then common ∷ [] else [])) (sym (ne_eqb i k other))
]
  where
    keep : (xs : List ℕ) → xs ≡ xs ++ []
    keep [] = refl
    keep (x ∷ xs) = ap (λ l. x ∷ l) (keep xs)

derived-gift : (g : Gift) → (gift_eq.eq-value).it g ≡ (λ other. (g.class == other.class) && g.common == other.common)
derived-gift g = refl

-- one gift more
gifts-insert : (keys : List Gift) (g : Gift) (i c : ℕ) → has_gift (insert_key (gift_eq.eq-value).it keys g) i c ≡ (has_gift keys i c || (i == g.class && c == g.common))
gifts-insert keys g i c = by (list_any ((gift_eq.eq-value).it g) keys) refl
  where
    there : list_any ((gift_eq.eq-value).it g) keys ≡ true → (i == g.class && c == g.common) ≡ true → has_gift keys i c ≡ true
    there has is =
        let one : i ≡ g.class = eqb-true i g.class (first_true (i == g.class) (c == g.common) is) in
        let two : c ≡ g.common = eqb-true c g.common (second_true (i == g.class) (c == g.common) is) in
        (λ k. has_gift keys (one k) (two k)) ∙ ap (λ test. list_any test keys) (sym (derived-gift g)) ∙ has

    same : (a b : Bool) → (b ≡ true → a ≡ true) → a ≡ (a || b)
    same true b h = refl
    same false true h = h refl
    same false false h = refl

    by : (b : Bool) → list_any ((gift_eq.eq-value).it g) keys ≡ b → has_gift (if b then keys else keys ++ g ∷ []) i c ≡ (has_gift keys i c || (i == g.class && c == g.common))
    by true has = same (has_gift keys i c) (i == g.class && c == g.common) (there has)
    by false has = list_any-append (λ q. (i == q.class) && c == q.common) keys (g ∷ []) ∙ ap (λ b. has_gift keys i c || b) (or-false (i == g.class && c == g.common))

pub gifts-next : {A : Type 0} (keys after : List Gift) (old new : List (Vec ℕ A)) (g : Gift) → after ≡ insert_key (gift_eq.eq-value).it keys g
    → ((i : ℕ) → commons_at new i ≡ commons_at old i ++ given_at (Some (g.class, g.common)) i)
    → ((i c : ℕ) → has_gift keys i c ≡ list_any (λ d. c == d) (commons_at old i)) → (i c : ℕ) → has_gift after i c ≡ list_any (λ d. c == d) (commons_at new i)
gifts-next keys after old new g is given so_far i c =
    ap (λ l. has_gift l i c) is ∙ gifts-insert keys g i c ∙ (λ k. so_far i c k || sym (last (i == g.class)) k)
    ∙ sym (list_any-append (λ d. c == d) (commons_at old i) (given_at (Some (g.class, g.common)) i)) ∙ ap (list_any (λ d. c == d)) (sym (given i))
  where
    last : (b : Bool) → list_any (λ d. c == d) (if b then g.common ∷ [] else []) ≡ (b && c == g.common)
    last true = or-false (c == g.common)
    last false = refl

-- one question more is answered
pub answers-next : (has : ℕ → List ℕ → Bool) (keys after : List Permission) (p : Permission) (answer : Bool) → after ≡ insert_key (permission_eq.eq-value).it keys p → has p.place p.name.now ≡ answer
    → AreAnswers has keys answer → AreAnswers has after answer
answers-next has keys after p answer is answered so_far i name there = by (lists keys i name) refl (sym (ap (λ l. lists l i name) is ∙ lists-insert keys p i name) ∙ there)
  where
    by : (b : Bool) → lists keys i name ≡ b → (b || (i == p.place && bytes_eq name p.name.now)) ≡ true → has i name ≡ answer
    by true e either = so_far i name e
    by false e either =
        let place : i ≡ p.place = eqb-true i p.place (first_true (i == p.place) (bytes_eq name p.name.now) either) in
        let named : name ≡ p.name.now = (bytes_eq-Decides name p.name.now).0 (second_true (i == p.place) (bytes_eq name p.name.now) either) in
        (λ k. has (place k) (named k)) ∙ answered

-- whether it was taken up or there was no memory
pub answers-after : {T E : Type 0} (r : Result T E) (has : ℕ → List ℕ → Bool) (keys after : List Permission) (p : Permission) (answer : Bool) → OnOk r (after ≡ insert_key (permission_eq.eq-value).it keys p) → OnErr r (after ≡ keys)
    → has p.place p.name.now ≡ answer → AreAnswers has keys answer → AreAnswers has after answer
answers-after (Ok x) has keys after p answer is same answered so_far = answers-next has keys after p answer is answered so_far
answers-after (Err e) has keys after p answer is same answered so_far = λ i name there. so_far i name (sym (ap (λ l. lists l i name) same) ∙ there)

-- a value that isn't there
pub only-none : {X : Type 0} (P : Option X → Type 0) → ((x : X) → P (Some x) → ⊥) → (o : Option X) → P o → o ≡ None
only-none P never None is = refl
only-none P never (Some x) is = absurd (never x is)

-- at first none is at hand
pub recent-none : (has : ℕ → List ℕ → Bool) (n : ℕ) → AreRecent has (replicate n None)
recent-none has zero i p at = absurd (none-some (Some p) at)
recent-none has (suc n) zero p at = absurd (none-some p (same_Some None (Some p) at))
recent-none has (suc n) (suc i) p at = recent-none has n i p at

-- a question that was answered with yes is put at hand
pub recent-noted : (has : ℕ → List ℕ → Bool) (recent : List (Option Permission)) (slot : ℕ) (q : Permission) → AreRecent has recent → has q.place q.name.now ≡ true → AreRecent has (set recent slot (Some q))
recent-noted has [] slot q are yes_it i p at = are i p at
recent-noted has (r ∷ recent) zero q are yes_it zero p at = subst (λ (x : Permission). has x.place x.name.now ≡ true) (same_Some q p (same_Some (Some q) (Some p) at)) yes_it
recent-noted has (r ∷ recent) zero q are yes_it (suc i) p at = are (suc i) p at
recent-noted has (r ∷ recent) (suc slot) q are yes_it zero p at = are zero p at
recent-noted has (r ∷ recent) (suc slot) q are yes_it (suc i) p at = recent-noted has recent slot q (λ j. are (suc j)) yes_it i p at

-- the answer of a question that is at hand
pub recent-recalled : (has : ℕ → List ℕ → Bool) (recent : List (Option Permission)) (slot : ℕ) (p : Permission) (place : ℕ) (name : List ℕ) → AreRecent has recent → slice_get recent slot ≡ Some (Some p)
    → p.place ≡ place → p.name.now ≡ name → has place name ≡ true
recent-recalled has recent slot p place name are at same named = (λ k. has (sym same k) (sym named k)) ∙ are slot p at
