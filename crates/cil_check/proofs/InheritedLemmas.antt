-- The commons that statements give to classes.
use Rattle.cil_check.proofs.Common.{◌≡◌, ℕ, ◌+◌, ◌<◌, zero, suc, Bool, true, false, ◌==◌, List, [], ◌∷◌, ◌++◌, length, get_or, set, take, cond, Option, Some, None, Bor, is_some, nat_lt, true≢false, position, refl, sym, ap, ◌∙◌, subst, arith, append-nil, add-one, if◌then◌else◌, option_or, option_and_then, list_any, AllByRecursion, none-some, same_Some, slice_get_within, slice_get_read, eqb-true, eqb-false, ltb-true, lt-ltb, position-Some, flat_map-append, Word, Form, block, class_common, Placed, classes, commons, is_same, holds_of, leads, references, listed_by, gives_common, common_permissions, all-append, IsFirstOf, IsLead, IsSeen, given_word, given_lead, numbers_in, list_at, names_listed, given_names, common_word, common_lead, HasInheritedOf, Seen, Common, at_if, position-append, any-position, take-next}
use Rattle.std.proofs.Common.{flat_map, IfSome, option_map, slice_get}
use Rattle.cil_check.proofs.PositionLemmas.{get-append, get-last}
use Rattle.cil_check.proofs.FirstsLemmas.{gives-lead, lead-same}
use Rattle.cil_check.proofs.SeenLemmas.{seen-lead}
use Rattle.cil_check.proofs.WordLemmas.{Led, led-at, none-there}

get-set_same : {X : Type 0} (xs : List X) (m : ℕ) (x y : X) → slice_get xs m ≡ Some x → slice_get (set xs m y) m ≡ Some y
get-set_same [] m x y is = absurd (none-some x is)
get-set_same (z ∷ xs) zero x y is = refl
get-set_same (z ∷ xs) (suc m) x y is = get-set_same xs m x y is

get-set_other : {X : Type 0} (xs : List X) (m n : ℕ) (y : X) → (n ≡ m → ⊥) → slice_get (set xs m y) n ≡ slice_get xs n
get-set_other [] m n y other = refl
get-set_other (z ∷ xs) zero zero y other = absurd (other refl)
get-set_other (z ∷ xs) zero (suc n) y other = refl
get-set_other (z ∷ xs) (suc m) zero y other = refl
get-set_other (z ∷ xs) (suc m) (suc n) y other = get-set_other xs m n y (λ e. other (ap suc e))

-- two numbers found at one place are one
found-same : (i j at : ℕ) (places : List ℕ) → position (λ k. i == k) places ≡ Some at → position (λ k. j == k) places ≡ Some at → i ≡ j
found-same i j at places found other =
    eqb-true i (get_or places at 0) (position-Some (λ k. i == k) places at 0 found).1 ∙ sym (eqb-true j (get_or places at 0) (position-Some (λ k. j == k) places at 0 other).1)

-- what is noted of a class, and one more of the class
abbrev pub with_one : Bool → List ℕ → ℕ → List ℕ
with_one same places place = if same then places ++ place ∷ [] else places

-- one more for a class that is noted
pub noted-more : (keys : List ℕ) (lists : List (List ℕ)) (owner at place : ℕ) (places : List ℕ) → position (λ k. owner == k) keys ≡ Some at → slice_get lists at ≡ Some places
    → (k : ℕ) → list_at (keys, set lists at (places ++ place ∷ [])) k ≡ with_one (k == owner) (list_at (keys, lists) k) place
noted-more keys lists owner at place places found is k = by (k == owner) refl
  where
    there : k ≡ owner → list_at (keys, set lists at (places ++ place ∷ [])) k ≡ list_at (keys, lists) k ++ place ∷ []
    there e =
        let at_k : position (λ key. k == key) keys ≡ Some at = ap (λ n. position (λ key. n == key) keys) e ∙ found in
        ap (λ o. numbers_in (option_and_then (slice_get (set lists at (places ++ place ∷ []))) o)) at_k ∙ ap numbers_in (get-set_same lists at places (places ++ place ∷ []) is)
        ∙ ap (λ o. numbers_in o ++ place ∷ []) (sym is) ∙ ap (λ o. numbers_in (option_and_then (slice_get lists) o) ++ place ∷ []) (sym at_k)

    elsewhere : (k ≡ owner → ⊥) → (o : Option ℕ) → position (λ key. k == key) keys ≡ o
        → numbers_in (option_and_then (slice_get (set lists at (places ++ place ∷ []))) o) ≡ numbers_in (option_and_then (slice_get lists) o)
    elsewhere other None e = refl
    elsewhere other (Some m) e =
        ap numbers_in (get-set_other lists at m (places ++ place ∷ []) (λ one. other (found-same k owner at keys (e ∙ ap Some one) found)))

    by : (b : Bool) → (k == owner) ≡ b → list_at (keys, set lists at (places ++ place ∷ [])) k ≡ with_one b (list_at (keys, lists) k) place
    by true e = there (eqb-true k owner e)
    by false e = elsewhere (eqb-false k owner e) (position (λ key. k == key) keys) refl

position-within : (k : ℕ) (keys : List ℕ) (m : ℕ) → position (λ key. k == key) keys ≡ Some m → m < length keys
position-within k keys m e = (position-Some (λ key. k == key) keys m 0 e).0

-- a number that is new goes last
pub inserted-last : (keys new : List ℕ) (owner : ℕ) → position (λ k. owner == k) keys ≡ None → new ≡ (if list_any (λ k. owner == k) keys then keys else keys ++ owner ∷ []) → new ≡ keys ++ owner ∷ []
inserted-last keys new owner none is = is ∙ ap (λ b. if b then keys else keys ++ owner ∷ []) (any-position (λ k. owner == k) keys ∙ ap is_some none)

-- one more for a class that is not noted yet
pub noted-new : (keys : List ℕ) (lists : List (List ℕ)) (owner place : ℕ) → length keys ≡ length lists → position (λ k. owner == k) keys ≡ None
    → (k : ℕ) → list_at (keys ++ owner ∷ [], lists ++ (place ∷ []) ∷ []) k ≡ with_one (k == owner) (list_at (keys, lists) k) place
noted-new keys lists owner place same none k = ap (λ o. numbers_in (option_and_then (slice_get more) o)) (position-append (λ key. k == key) keys owner) ∙ by (k == owner) refl
  where
    more : List (List ℕ)
    more = lists ++ (place ∷ []) ∷ []

    old : Option ℕ
    old = position (λ key. k == key) keys

    kept : (o : Option ℕ) → old ≡ o → numbers_in (option_and_then (slice_get more) (option_or o None)) ≡ numbers_in (option_and_then (slice_get lists) o)
    kept None e = refl
    kept (Some m) e = let less = position-within k keys m e in there (slice_get lists m) refl (omega (arith, less, same))
      where
        there : (o : Option (List ℕ)) → slice_get lists m ≡ o → m < length lists → numbers_in (slice_get more m) ≡ numbers_in (slice_get lists m)
        there (Some places) is less = ap numbers_in (get-append lists ((place ∷ []) ∷ []) m places is) ∙ ap numbers_in (sym is)
        there None is less = absurd (none-there lists m is less)

    by : (b : Bool) → (k == owner) ≡ b → numbers_in (option_and_then (slice_get more) (option_or old (at_if b (length keys)))) ≡ with_one b (numbers_in (option_and_then (slice_get lists) old)) place
    by true e =
        let absent : old ≡ None = ap (λ n. position (λ key. n == key) keys) (eqb-true k owner e) ∙ none in
        ap (λ o. numbers_in (option_and_then (slice_get more) (option_or o (Some (length keys))))) absent
        ∙ ap (λ n. numbers_in (slice_get more n)) same ∙ ap numbers_in (get-last lists (place ∷ []))
        ∙ ap (λ o. numbers_in (option_and_then (slice_get lists) o) ++ place ∷ []) (sym absent)
    by false e = kept old refl

-- what a statement gives to a class, where its first word leads to it
given-lead : (policy : List Placed) (s t : Placed) → given_names policy s t ≡ (if holds_of (is_same classes s) (given_lead Common policy t) then common_permissions policy t.namespace t.form else [])
given-lead policy s t = ap (λ b. if b then common_permissions policy t.namespace t.form else []) (gives-lead Common policy s t)

common-lead : (policy : List Placed) (namespace : List (List ℕ)) (form : Form) → common_permissions policy namespace form
    ≡ listed_by (option_and_then (λ w. leads policy commons namespace w.text) (common_word form))
common-lead policy namespace (block id) = refl
common-lead policy namespace _ = refl

given-form : (form : Form) (word : Word) → given_word Common form ≡ Some word → (the_common : Word) × (form ≡ class_common word the_common)
given-form (class_common the_class the_common) word is = (the_common, ap (λ w. class_common w the_common) (same_Some the_class word is))
given-form _ word is = cc

-- the second word of a statement that gives something to a class leads to its common
pub common-led : {A : Type 0} (seen : Seen A) (policy : List Placed) (t : Placed) (owner : ℕ) → IsSeen seen policy t → IsLead classes policy (Some owner) (given_lead Common policy t)
    → IsLead commons policy (get_or seen.bound 1 None) (common_lead policy t)
common-led seen policy t owner is led = by (given_word Common t.form) refl
  where
    there : Led classes policy owner (given_lead Common policy t)
    there = led-at classes policy owner (given_lead Common policy t) led

    by : (o : Option Word) → given_word Common t.form ≡ o → IsLead commons policy (get_or seen.bound 1 None) (common_lead policy t)
    by None none = absurd (none-some there.s (sym (ap (option_and_then (λ w. leads policy classes t.namespace w.text)) none) ∙ there.is))
    by (Some word) some =
        let (the_common, form) = given-form t.form word some in
        subst (λ l. IsLead commons policy (get_or seen.bound 1 None) l) (sym (ap (λ f. option_and_then (λ w. leads policy commons t.namespace w.text) (common_word f)) form))
        (seen-lead seen policy t 1 commons the_common is (ap (λ f. slice_get (references f) 1) form))

-- what one statement more gives
given-more : (policy : List Placed) (n : ℕ) (s t : Placed) → slice_get policy n ≡ Some t → flat_map (given_names policy s) (take (n + 1) policy) ≡ flat_map (given_names policy s) (take n policy) ++ given_names policy s t
given-more policy n s t is =
    ap (λ k. flat_map (given_names policy s) (take k policy)) (add-one n) ∙ ap (flat_map (given_names policy s)) (take-next policy n t is)
    ∙ flat_map-append (given_names policy s) (take n policy) (t ∷ []) ∙ ap (λ l. flat_map (given_names policy s) (take n policy) ++ l) (append-nil (given_names policy s t))

-- a statement that gives a common to a class
pub inherited-next : (policy : List Placed) (n : ℕ) (t : Placed) (owner place : ℕ) (old new : List ℕ × List (List ℕ)) → slice_get policy n ≡ Some t
    → IsLead classes policy (Some owner) (given_lead Common policy t) → IsLead commons policy (Some place) (common_lead policy t)
    → ((k : ℕ) → list_at new k ≡ with_one (k == owner) (list_at old k) place) → HasInheritedOf policy (take n policy) old → HasInheritedOf policy (take (n + 1) policy) new
inherited-next policy n t owner place old new is to from noted so_far = record {
  within = λ k. subst (AllByRecursion (λ m. m < length policy)) (sym (noted k)) (low (k == owner) (list_at old k) (so_far.within k));
  listed = λ i s at first.
      ap (names_listed policy) (noted i) ∙ by (i == owner) (list_at old i)
      ∙ ap (λ l. l ++ (if i == owner then listed_by (slice_get policy place) else [])) (so_far.listed i s at first)
      ∙ ap (λ l. flat_map (given_names policy s) (take n policy) ++ l) (sym (gives i s at first)) ∙ sym (given-more policy n s t is);
}
  where
    low : (b : Bool) (places : List ℕ) → AllByRecursion (λ m. m < length policy) places → AllByRecursion (λ m. m < length policy) (with_one b places place)
    low true places all = all-append (λ m. m < length policy) places (place ∷ []) all (from.within, tt)
    low false places all = all

    by : (b : Bool) (places : List ℕ) → names_listed policy (with_one b places place) ≡ names_listed policy places ++ (if b then listed_by (slice_get policy place) else [])
    by true places =
        flat_map-append (λ m. listed_by (slice_get policy m)) places (place ∷ []) ∙ ap (λ l. names_listed policy places ++ l) (append-nil (listed_by (slice_get policy place)))
    by false places = sym (append-nil (names_listed policy places))

    gives : (i : ℕ) (s : Placed) → slice_get policy i ≡ Some s → IsFirstOf classes policy i → given_names policy s t ≡ (if i == owner then listed_by (slice_get policy place) else [])
    gives i s at first =
        given-lead policy s t ∙ ap (λ b. if b then common_permissions policy t.namespace t.form else []) (sym (lead-same classes policy i owner s (given_lead Common policy t) at first to))
        ∙ ap (λ l. if i == owner then l else []) (common-lead policy t.namespace t.form ∙ ap listed_by (sym from.is))

-- and one that gives none
inherited-stay : (policy : List Placed) (n : ℕ) (t : Placed) (noted : List ℕ × List (List ℕ)) → slice_get policy n ≡ Some t → ((s : Placed) → given_names policy s t ≡ [])
    → HasInheritedOf policy (take n policy) noted → HasInheritedOf policy (take (n + 1) policy) noted
inherited-stay policy n t noted is none so_far = record {
  within = so_far.within;
  listed = λ i s at first.
      so_far.listed i s at first ∙ sym (append-nil (flat_map (given_names policy s) (take n policy))) ∙ ap (λ l. flat_map (given_names policy s) (take n policy) ++ l) (sym (none s))
      ∙ sym (given-more policy n s t is);
}

pub no-class-stay : (policy : List Placed) (n : ℕ) (t : Placed) (noted : List ℕ × List (List ℕ)) → slice_get policy n ≡ Some t → IsLead classes policy None (given_lead Common policy t)
    → HasInheritedOf policy (take n policy) noted → HasInheritedOf policy (take (n + 1) policy) noted
no-class-stay policy n t noted is led so_far =
    inherited-stay policy n t noted is
    (λ s. given-lead policy s t ∙ ap (λ o. if holds_of (is_same classes s) o then common_permissions policy t.namespace t.form else []) (sym led.is)) so_far

pub no-common-stay : (policy : List Placed) (n : ℕ) (t : Placed) (noted : List ℕ × List (List ℕ)) → slice_get policy n ≡ Some t → IsLead commons policy None (common_lead policy t)
    → HasInheritedOf policy (take n policy) noted → HasInheritedOf policy (take (n + 1) policy) noted
no-common-stay policy n t noted is led so_far =
    inherited-stay policy n t noted is
    (λ s. ap (λ l. if gives_common policy s t.namespace t.form then l else []) (common-lead policy t.namespace t.form ∙ ap listed_by (sym led.is)) ∙ same (gives_common policy s t.namespace t.form)) so_far
  where
    same : (b : Bool) → cond {A = List (List ℕ)} b [] [] ≡ []
    same true = refl
    same false = refl

-- nothing is noted at first
pub inherited-first : (policy : List Placed) (noted : List ℕ × List (List ℕ)) → noted.0 ≡ [] → HasInheritedOf policy [] noted
inherited-first policy noted empty = record {
  within = λ k. subst (AllByRecursion (λ m. m < length policy)) (sym (none k)) tt;
  listed = λ i s at first. ap (names_listed policy) (none i);
}
  where
    none : (k : ℕ) → list_at noted k ≡ []
    none k = ap (λ keys. numbers_in (option_and_then (slice_get noted.1) (position (λ key. k == key) keys))) empty

-- what a look-up by an index gives
pub at-index : {X : Type 0} (r : Option (Bor X)) (xs : List X) (i : ℕ) → is_some r ≡ nat_lt i (length xs) → IfSome r (λ x. x.now ≡ get_or xs i x.now) → option_map (λ x. x.now) r ≡ slice_get xs i
at-index None xs i there is = none (slice_get xs i) refl
  where
    none : (o : Option _) → slice_get xs i ≡ o → None ≡ slice_get xs i
    none None e = sym e
    none (Some x) e = absurd (true≢false (sym (there ∙ lt-ltb i (length xs) (slice_get_within xs i x e))))
at-index (Some x) xs i there is = sym (slice_get_read xs (length xs) i x.now refl (ltb-true i (length xs) (sym there)) is)

-- the list of a class that is found
pub found-list : (lists : List (List ℕ)) (keys : List ℕ) (owner at : ℕ) (o : Option (List ℕ)) → position (λ k. owner == k) keys ≡ Some at → o ≡ slice_get lists at → numbers_in o ≡ list_at (keys, lists) owner
found-list lists keys owner at o found is = ap numbers_in is ∙ ap (λ p. numbers_in (option_and_then (slice_get lists) p)) (sym found)
