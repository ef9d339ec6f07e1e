-- Permissions by numbers.
use Rattle.cil_check.proofs.Common.{◌≡◌, ℕ, zero, suc, ◌+◌, ◌<◌, ◌==◌, ◌&&◌, ◌||◌, nat_eq, nat_lt, ◌≤◌, inl, inr, Bool, true, false, not, List, [], ◌∷◌, ◌++◌, map, length, take, get_or, Option, Some, bytes_eq, refl, sym, ap, ◌∙◌, subst, true≢false, add-one, arith, if◌then◌else◌, list_any, AllByRecursion, IsDistinct, none-some, same_Some, get_or_from_slice_get, slice_get_within, eqb-true, eq-eqb, cases_order, lt-ltb, le-ltb, list_any-append, map-append, fold-append, or-false, bytes_eq-Decides, Word, Placed, has_name, with_name, distinct, texts, own_permissions, NumberedWord, word_at, bytes_eq-true, distinct-place, is_listed, HaveListed, HaveWords, IsOneName, Listed, AreNumbersOf, take-next}
use Rattle.std.proofs.Common.{slice_get}
use Rattle.indexmap.specs.IndexSet.{insert_key}
use Rattle.cil_check.specs.contracts.permissions.ListedPartialEq.TheImpl as listed_eq
pub use Rattle.cil_bind.proofs.PermissionLemmas.{as-many, names-next, none-listed, own-listed, spread, texts-last, word-read}
use Rattle.cil_check.proofs.WordLemmas.{has-distinct}

pub derived-listed : (l : Listed) → (listed_eq.eq-value).it l ≡ is_listed l.owner l.word
derived-listed l = λ i other. nat_eq l.owner other.owner && nat_eq l.word other.word

or-same : (a b : Bool) → (b ≡ true → a ≡ true) → a ≡ (a || b)
or-same true b h = refl
or-same false true h = h refl
or-same false false h = refl

-- one permission more
pub listed-insert : (keys : List Listed) (l : Listed) (k n : ℕ) → list_any (is_listed k n) (insert_key (listed_eq.eq-value).it keys l) ≡ (list_any (is_listed k n) keys || (k == l.owner && n == l.word))
listed-insert keys l k n = by (list_any ((listed_eq.eq-value).it l) keys) refl
  where
    there : list_any ((listed_eq.eq-value).it l) keys ≡ true → (k == l.owner && n == l.word) ≡ true → list_any (is_listed k n) keys ≡ true
    there has is =
        let owner : k ≡ l.owner = eqb-true k l.owner (first (k == l.owner) (n == l.word) is) in
        let word : n ≡ l.word = eqb-true n l.word (second (k == l.owner) (n == l.word) is) in
        ap (λ x. list_any (is_listed x n) keys) owner ∙ ap (λ x. list_any (is_listed l.owner x) keys) word ∙ ap (λ test. list_any test keys) (sym (derived-listed l)) ∙ has
      where
        first : (a b : Bool) → (a && b) ≡ true → a ≡ true
        first true b e = refl
        first false b e = e

        second : (a b : Bool) → (a && b) ≡ true → b ≡ true
        second true b e = e
        second false b e = absurd (true≢false (sym e))

    by : (b : Bool) → list_any ((listed_eq.eq-value).it l) keys ≡ b → list_any (is_listed k n) (if b then keys else keys ++ l ∷ []) ≡ (list_any (is_listed k n) keys || (k == l.owner && n == l.word))
    by true has = or-same (list_any (is_listed k n) keys) (k == l.owner && n == l.word) (there has)
    by false has = list_any-append (is_listed k n) keys (l ∷ []) ∙ ap (λ b. list_any (is_listed k n) keys || b) (or-false (is_listed k n l))

-- a number is that of a name
pub number-same : (names : List (List ℕ)) (n m : ℕ) (text : List ℕ) → IsDistinct bytes_eq names → n < length names → slice_get names m ≡ Some text → (n == m) ≡ bytes_eq (word_at names n) text
number-same names n m text distinct less at = by (n == m) (bytes_eq (word_at names n) text) refl refl
  where
    here : get_or names m [] ≡ text
    here = get_or_from_slice_get names m text [] at

    by : (b c : Bool) → (n == m) ≡ b → bytes_eq (word_at names n) text ≡ c → b ≡ c
    by true true e f = refl
    by false false e f = refl
    by true false e f = sym ((bytes_eq-Decides (word_at names n) text).1 (ap (word_at names) (eqb-true n m e) ∙ here)) ∙ f
    by false true e f = sym e ∙ eq-eqb n m (distinct-place names n m distinct less (slice_get_within names m text at) (bytes_eq-true (word_at names n) text f ∙ sym here))

-- one word more
pub words-next : (names : List (List ℕ)) (list : List Word) (i : ℕ) (w : Word) (m owner k n : ℕ) (first old new : Bool) → IsDistinct bytes_eq names → n < length names → slice_get list i ≡ Some w → slice_get names m ≡ Some w.text
    → old ≡ (first || (k == owner && has_name (texts (take i list)) (word_at names n))) → new ≡ (old || (k == owner && n == m)) → new ≡ (first || (k == owner && has_name (texts (take (i + 1) list)) (word_at names n)))
words-next names list i w m owner k n first old new distinct less at numbered so_far added =
    added ∙ ap (λ b. b || (k == owner && n == m)) so_far ∙ ap (λ b. (first || (k == owner && has_name (texts (take i list)) (word_at names n))) || (k == owner && b)) (number-same names n m w.text distinct less numbered)
    ∙ spread first (k == owner) (has_name (texts (take i list)) (word_at names n)) (bytes_eq (word_at names n) w.text)
    ∙ ap (λ b. first || (k == owner && b)) (sym (names-next list i w (word_at names n) at))

pub nothing-more : (a b : Bool) → a ≡ (a || (b && false))
nothing-more true b = refl
nothing-more false true = refl
nothing-more false false = refl

-- no number is in an open list at first
pub open-first : (names : List (List ℕ)) (open_list : List ℕ) (list : List Word) → open_list ≡ [] → AreNumbersOf names open_list (distinct (texts (take 0 list)))
open-first names open_list list none = ap (map (slice_get names)) none

-- names, each once, with one more
pub distinct-last : (names : List (List ℕ)) (name : List ℕ) → distinct (names ++ name ∷ []) ≡ with_name (distinct names) name
distinct-last names name = fold-append with_name [] names (name ∷ [])

-- one word more goes to the open list, if it isn't there
pub open-next : (names : List (List ℕ)) (list : List Word) (i : ℕ) (w : Word) (m owner : ℕ) (first keys : List Listed) (old new : List ℕ) → slice_get list i ≡ Some w → slice_get names m ≡ Some w.text
    → ((n : ℕ) → n < length names → list_any (is_listed owner n) first ≡ false)
    → ((n : ℕ) → n < length names → list_any (is_listed owner n) keys ≡ (list_any (is_listed owner n) first || (owner == owner && has_name (texts (take i list)) (word_at names n))))
    → new ≡ (if list_any (is_listed owner m) keys then old else old ++ m ∷ []) → AreNumbersOf names old (distinct (texts (take i list)))
    → AreNumbersOf names new (distinct (texts (take (i + 1) list)))
open-next names list i w m owner first keys old new at numbered none so_far is before =
    ap (map (slice_get names)) (is ∙ ap (λ b. if b then old else old ++ m ∷ []) there) ∙ by (has_name (distinct earlier) w.text) ∙ ap (map Some) (sym more)
  where
    earlier : List (List ℕ)
    earlier = texts (take i list)

    less : m < length names
    less = slice_get_within names m w.text numbered

    there : list_any (is_listed owner m) keys ≡ has_name (distinct earlier) w.text
    there =
        so_far m less ∙ ap (λ b. b || (owner == owner && has_name earlier (word_at names m))) (none m less) ∙ ap (λ b. b && has_name earlier (word_at names m)) (eq-eqb owner owner refl)
        ∙ ap (has_name earlier) (get_or_from_slice_get names m w.text [] numbered) ∙ sym (has-distinct earlier w.text)

    more : distinct (texts (take (i + 1) list)) ≡ with_name (distinct earlier) w.text
    more = ap (λ k. distinct (texts (take k list))) (add-one i) ∙ ap (λ l. distinct (texts l)) (take-next list i w at) ∙ ap distinct (texts-last (take i list) w) ∙ distinct-last earlier w.text

    by : (b : Bool) → map (slice_get names) (if b then old else old ++ m ∷ []) ≡ map Some (if b then distinct earlier else distinct earlier ++ w.text ∷ [])
    by true = before
    by false =
        map-append (slice_get names) old (m ∷ []) ∙ ap (λ l. l ++ slice_get names m ∷ []) before ∙ ap (λ o. map Some (distinct earlier) ++ o ∷ []) numbered
        ∙ sym (map-append Some (distinct earlier) (w.text ∷ []))

-- what is read behind the end of the words
abbrev pub no_word : NumberedWord
no_word = record { at = record { offset = 0; line = 0; column = 0 }; text = 0 }

pub one-name-at : (list : List Word) (i : ℕ) (w : Word) → AllByRecursion IsOneName list → slice_get list i ≡ Some w → IsOneName w
one-name-at [] i w all at = absurd (none-some w at)
one-name-at (v ∷ list) zero w all at = subst IsOneName (same_Some v w at) all.0
one-name-at (v ∷ list) (suc i) w all at = one-name-at list i w all.1 at

-- of the statements in front of a place, each lists the permissions that the keys have
abbrev pub HaveListedBelow : List (List ℕ) → List Placed → ℕ → List Listed → Type 0
HaveListedBelow names policy i keys = (j : ℕ) (s : Placed) → slice_get policy j ≡ Some s → (n : ℕ) → n < length names
    → list_any (is_listed j n) keys ≡ (nat_lt j i && has_name (texts (own_permissions s.form)) (word_at names n))

none-of : (b : Bool) → (b && false) ≡ false
none-of true = refl
none-of false = refl

below-next : (j i : ℕ) (a : Bool) → ((nat_lt j i && a) || (j == i && a)) ≡ (nat_lt j (i + 1) && a)
below-next j i a = elim (cases_order j i) [
  | inl same ↦ ap (λ b. (b && a) || (j == i && a)) (le-ltb j i (omega arith)) ∙ ap (λ b. b && a) (eq-eqb j i same) ∙ ap (λ b. b && a) (sym (lt-ltb j (i + 1) (omega arith)))
  | inr other ↦ elim other [
    | inl lesser ↦ ap (λ b. (b && a) || (j == i && a)) (lt-ltb j i lesser) ∙ either a (j == i) ∙ ap (λ b. b && a) (sym (lt-ltb j (i + 1) (omega arith)))
    | inr greater ↦ ap (λ b. (b && a) || (j == i && a)) (le-ltb j i (omega arith)) ∙ ap (λ b. b && a) (unequal j i greater) ∙ ap (λ b. b && a) (sym (le-ltb j (i + 1) (omega arith)))
  ]
]
  where
    either : (a b : Bool) → (a || (b && a)) ≡ a
    either true b = refl
    either false b = none-of b

    unequal : (j i : ℕ) → i < j → (j == i) ≡ false
    unequal j i less = by (j == i) refl
      where
        by : (b : Bool) → (j == i) ≡ b → (j == i) ≡ false
        by true e = let same : j ≡ i = eqb-true j i e in absurd (omega (arith, same, less))
        by false e = e

-- one statement more, which lists permissions
pub listed-next : (names : List (List ℕ)) (policy : List Placed) (i : ℕ) (t : Placed) (list : List Word) (old new : List Listed) → slice_get policy i ≡ Some t → list ≡ own_permissions t.form
    → ((k n : ℕ) → n < length names → list_any (is_listed k n) new ≡ (list_any (is_listed k n) old || (k == i && has_name (texts list) (word_at names n))))
    → HaveListedBelow names policy i old → HaveListedBelow names policy (i + 1) new
listed-next names policy i t list old new here own added so_far j s at n less =
    added j n less ∙ ap (λ b. b || (j == i && has_name (texts list) (word_at names n))) (so_far j s at n less)
    ∙ by (j == i) refl ∙ below-next j i (has_name (texts (own_permissions s.form)) (word_at names n))
  where
    mine : Bool
    mine = has_name (texts (own_permissions s.form)) (word_at names n)

    by : (b : Bool) → (j == i) ≡ b → ((nat_lt j i && mine) || (b && has_name (texts list) (word_at names n))) ≡ ((nat_lt j i && mine) || (b && mine))
    by true e =
        let one : t ≡ s = same_Some t s (sym here ∙ ap (slice_get policy) (sym (eqb-true j i e)) ∙ at) in
        ap (λ l. (nat_lt j i && mine) || has_name (texts l) (word_at names n)) (own ∙ ap (λ u. own_permissions u.form) one)
    by false e = refl

-- and one that lists none
pub listed-stay : (names : List (List ℕ)) (policy : List Placed) (i : ℕ) (t : Placed) (keys : List Listed) → slice_get policy i ≡ Some t → own_permissions t.form ≡ [] → HaveListedBelow names policy i keys → HaveListedBelow names policy (i + 1) keys
listed-stay names policy i t keys here own so_far =
    listed-next names policy i t [] keys keys here (sym own)
    (λ k n less. sym (ap (λ b. list_any (is_listed k n) keys || b) (none-of (k == i)) ∙ or-false (list_any (is_listed k n) keys))) so_far

pub listed-all : (names : List (List ℕ)) (policy : List Placed) (i : ℕ) (keys : List Listed) → length policy ≤ i → HaveListedBelow names policy i keys → HaveListed names policy keys
listed-all names policy i keys past so_far j s at n less =
    let within = slice_get_within policy j s at in
    so_far j s at n less ∙ ap (λ b. b && has_name (texts (own_permissions s.form)) (word_at names n)) (lt-ltb j i (omega (arith, within, past)))

-- an insertion tells whether a permission is new
pub told-new : (keys : List Listed) (l : Listed) (b : Bool) → b ≡ not (list_any ((listed_eq.eq-value).it l) keys) → list_any (is_listed l.owner l.word) keys ≡ not b
told-new keys l b is = ap (λ test. list_any test keys) (sym (derived-listed l)) ∙ twice (list_any ((listed_eq.eq-value).it l) keys) ∙ ap not (sym is)
  where
    twice : (a : Bool) → a ≡ not (not a)
    twice true = refl
    twice false = refl

-- a statement that isn't taken up yet lists nothing
pub none-below : (names : List (List ℕ)) (policy : List Placed) (i : ℕ) (t : Placed) (keys : List Listed) → slice_get policy i ≡ Some t → HaveListedBelow names policy i keys
    → (n : ℕ) → n < length names → list_any (is_listed i n) keys ≡ false
none-below names policy i t keys here so_far n less =
    so_far i t here n less ∙ ap (λ b. b && has_name (texts (own_permissions t.form)) (word_at names n)) (le-ltb i i (omega arith))

-- one list more, of a statement
pub lists-next : (names : List (List ℕ)) (policy : List Placed) (i : ℕ) (t : Placed) (lists more : List (List ℕ)) (numbers : List ℕ) → slice_get policy i ≡ Some t
    → more ≡ lists ++ numbers ∷ [] → AreNumbersOf names numbers (distinct (texts (own_permissions t.form))) → HaveWords names (take i policy) lists → HaveWords names (take (i + 1) policy) more
lists-next names policy i t lists more numbers here is numbered so_far =
    ap (map (map (slice_get names))) is ∙ map-append (map (slice_get names)) lists (numbers ∷ []) ∙ ap (λ l. l ++ map (slice_get names) numbers ∷ []) so_far
    ∙ ap (λ l. map told (take i policy) ++ l ∷ []) numbered ∙ sym (map-append told (take i policy) (t ∷ [])) ∙ ap (map told) (sym (ap (λ k. take k policy) (add-one i) ∙ take-next policy i t here))
  where
    told : Placed → List (Option (List ℕ))
    told s = map Some (distinct (texts (own_permissions s.form)))

-- the list of a statement
pub words-at : (names : List (List ℕ)) (policy : List Placed) (lists : List (List ℕ)) (i : ℕ) (s : Placed) → HaveWords names policy lists → slice_get policy i ≡ Some s
    → (i < length lists) × AreNumbersOf names (get_or lists i []) (distinct (texts (own_permissions s.form)))
words-at names [] lists i s have at = absurd (none-some s at)
words-at names (t ∷ policy) [] i s have at = cc
words-at names (t ∷ policy) (l ∷ lists) zero s have at = (omega arith, (let head : map (slice_get names) l ≡ map Some (distinct (texts (own_permissions t.form))) = cc in head ∙ ap (λ u. map Some (distinct (texts (own_permissions u.form)))) (same_Some t s at)))
words-at names (t ∷ policy) (l ∷ lists) (suc i) s have at =
    let rest : map (map (slice_get names)) lists ≡ map (λ u. map {A = List ℕ} Some (distinct (texts (own_permissions u.form)))) policy = cc in
    let more = words-at names policy lists i s rest at in
    let less = more.0 in
    (omega (arith, less), more.1)
