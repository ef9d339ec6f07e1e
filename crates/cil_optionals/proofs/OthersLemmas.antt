-- What statements and optionals inside others need.
use Rattle.cil_optionals.proofs.Common.{◌≡◌, ◌≢◌, inl, inr, ℕ, zero, suc, ◌+◌, ◌<◌, ◌≤◌, ◌==◌, Bool, true, false, not, ◌&&◌, ◌||◌, nat_lt, cond, List, [], ◌∷◌, ◌++◌, map, filter, length, get_or, slice_get, Some, None, refl, sym, ap, ◌∙◌, subst, arith, true≢false, list_all, list_any, cases_lt, lt-ltb, eqb-true, list_all-append, same_Some, slice_get_within, is_optional, Placed, references, named_permissions, is_unfound, is_lacking, missing_words, Optionals, is_within, restricted, AreApart, first_true, second_true, both_true, Row, is_met, are_met, meeting, IsInnermost, AreNested, is_need_of, are_found, are_there, AddsNeed, Asks, IsOf, is_need_within, AreOthersTo, AreOthers, HasUnmet, Need, IsReady, Word, Policy, NamedModule}
use Rattle.cil_specs.proofs.KeptLemmas.{nil-append}
use Rattle.cil_needs.proofs.GreatestLemmas.{all-got}
use Rattle.cil_optionals.proofs.KeptLemmas.{place-of, contains-place}
use Rattle.cil_optionals.proofs.ProviderLemmas.{row-within, HasRow, innermost-low}
use Rattle.cil_optionals.proofs.AsksLemmas.{asks-same, asks-need}
use Rattle.cil_specs.proofs.RestrictedLemmas.{lacking-restricted}
use Rattle.cil_bind.proofs.FromLemmas.{from-at, from-within, is-there}

-- no words are missing where all names are found
none-left : {X Y : Type 0} (f : X → Y) (test : X → Bool) (xs : List X) → list_all (λ x. not (test x)) xs ≡ true → map f (filter test xs) ≡ []
none-left f test [] all = refl
none-left f test (x ∷ xs) all =
    ap (λ b. map f (cond b (x ∷ filter test xs) (filter test xs))) (turned (test x) (first_true (not (test x)) (list_all (λ y. not (test y)) xs) all))
    ∙ none-left f test xs (second_true (not (test x)) (list_all (λ y. not (test y)) xs) all)
  where
    turned : (b : Bool) → not b ≡ true → b ≡ false
    turned true e = absurd (true≢false (sym e))
    turned false e = refl

all-left : {X Y : Type 0} (f : X → Y) (test : X → Bool) (xs : List X) → map f (filter test xs) ≡ [] → list_all (λ x. not (test x)) xs ≡ true
all-left f test [] none = refl
all-left f test (x ∷ xs) none = by (test x) refl none (all-left f test xs)
  where
    by : (b : Bool) → test x ≡ b → map f (cond b (x ∷ filter test xs) (filter test xs)) ≡ [] → (map f (filter test xs) ≡ [] → list_all (λ y. not (test y)) xs ≡ true) → (not b && list_all (λ y. not (test y)) xs) ≡ true
    by true e none more = absurd (cc none)
    by false e none more = more none

module _ (policy : List Placed) (s : Placed) where
  missing-none : (are_found policy s.namespace (references s.form) && are_there policy s.namespace (named_permissions s.form)) ≡ true → missing_words policy s ≡ []
  missing-none found =
      let rs = are_found policy s.namespace (references s.form) in
      let ps = are_there policy s.namespace (named_permissions s.form) in
      λ i. none-left (λ r. r.1) (is_unfound policy s.namespace) (references s.form) (first_true rs ps found) i
      ++ none-left (λ p. p.1) (is_lacking policy s.namespace) (named_permissions s.form) (second_true rs ps found) i

  found-all : missing_words policy s ≡ [] → (are_found policy s.namespace (references s.form) && are_there policy s.namespace (named_permissions s.form)) ≡ true
  found-all none =
      let words = nil-append (map (λ r. r.1) (filter (is_unfound policy s.namespace) (references s.form))) (map (λ p. p.1) (filter (is_lacking policy s.namespace) (named_permissions s.form))) none in
      both_true (are_found policy s.namespace (references s.form)) (are_there policy s.namespace (named_permissions s.form))
      (all-left (λ r. r.1) (is_unfound policy s.namespace) (references s.form) words.0) (all-left (λ p. p.1) (is_lacking policy s.namespace) (named_permissions s.form) words.1)

-- nothing is gone over
pub others-none : (policy : List Placed) (rows : List Row) (needs : List Need) → needs ≡ [] → AreOthersTo policy rows 0 0 needs
others-none policy rows needs none = subst (AreOthersTo policy rows 0 0) (sym none) (record {
  below = refl;
  inside = λ has met zero_it k row s low. absurd (omega (arith, low));
  found = λ set has nodes. (λ met i s low. absurd (omega (arith, low)), λ all. refl);
})

-- a statement in no optional needs nothing
pub others-skip : (policy : List Placed) (rows : List Row) (i : ℕ) (row : Row) (s : Placed) (needs : List Need) → AreNested rows policy → slice_get rows i ≡ Some row → slice_get policy i ≡ Some s → row.optional ≡ 0
    → AreOthersTo policy rows i i needs → AreOthersTo policy rows (i + 1) (i + 1) needs
others-skip policy rows i row s needs nested at here none are = record {
  below = are.below;
  inside = λ has met first k r t less r_at t_at is there. elim (cases_lt k i) [
    | inl lower ↦ are.inside has met first k r t lower r_at t_at is there
    | inr past ↦
        let same : k ≡ i = omega (arith, less, past) in
        ap (λ q. has q.optional) (same_Some r row (sym r_at ∙ ap (slice_get rows) same ∙ at)) ∙ ap has none ∙ first
  ];
  found = λ set has nodes. (
    λ met j t less t_at some within. elim (cases_lt j i) [
      | inl lower ↦ (are.found set has nodes).0 met j t lower t_at some within
      | inr past ↦
          let same : j ≡ i = omega (arith, less, past) in
          absurd (some (ap (λ q. q.optionals) (same_Some t s (sym t_at ∙ ap (slice_get policy) same ∙ here)) ∙ outside row.optional none (nested.around i row s at here)))
    ],
    λ all. (are.found set has nodes).1 (λ j t less. all j t (omega (arith, less))),
  );
}
  where
    outside : (n : ℕ) → n ≡ 0 → IsInnermost policy i n s → s.optionals ≡ []
    outside zero e is = is
    outside (suc k) e is = absurd (omega (arith, e))

-- an optional inside another needs that
pub others-around : (policy : List Placed) (rows : List Row) (i : ℕ) (row : Row) (s : Placed) (old new : List Need) → AreNested rows policy → slice_get rows i ≡ Some row → slice_get policy i ≡ Some s → is_optional s.form ≡ true
    → AddsNeed old new (i + 1) (Some row.optional) → AreOthersTo policy rows i i old → AreOthersTo policy rows i (i + 1) new
others-around policy rows i row s old new nested at here optional adds are = subst (AreOthersTo policy rows i (i + 1)) (sym adds.is) (record {
  below = list_all-append (is_need_within count) old (need ∷ []) ∙ both_true (list_all (is_need_within count) old) (is_need_within count need && true) are.below
      (both_true (is_need_within count need) true
      (both_true (nat_lt 0 need.optional) (nat_lt need.optional (count + 1) && list_all (λ n. nat_lt n (count + count + 1)) (meeting need)) (lt-ltb 0 need.optional (omega (arith, number)))
      (both_true (nat_lt need.optional (count + 1)) (list_all (λ n. nat_lt n (count + count + 1)) (meeting need)) (lt-ltb need.optional (count + 1) (omega (arith, number, low)))
      (ap (list_all (λ n. nat_lt n (count + count + 1))) adds.from_is ∙ both_true (nat_lt row.optional (count + count + 1)) true (lt-ltb row.optional (count + count + 1) (omega (arith, around))) refl)))
      refl);
  inside = λ has met first k r t less r_at t_at is there.
      let parts = sym (list_all-append (is_met has) old (need ∷ [])) ∙ met in
      elim (cases_lt k i) [
        | inl lower ↦ are.inside has (first_true (are_met has old) (is_met has need && true) parts) first k r t lower r_at t_at is there
        | inr past ↦
            let same : k ≡ i = omega (arith, less, past) in
            let here_it : suc k ≡ need.optional = omega (arith, same, number) in
            ap (λ q. has q.optional) (same_Some r row (sym r_at ∙ ap (slice_get rows) same ∙ at))
            ∙ chosen (has need.optional) (has row.optional) (ap has (sym here_it) ∙ there)
            (ap (λ l. not (has need.optional) || list_any has l) (sym adds.from_is) ∙ first_true (is_met has need) true (second_true (are_met has old) (is_met has need && true) parts))
      ];
  found = λ set has nodes.
      let one : is_met has need ≡ true =
      (λ j. not (has ((number ∙ next) j)) || list_any has (adds.from_is j))
      ∙ (λ j. not (nodes.optionals_are.optional_is i s here optional j) || (row-within rows policy set has nested nodes.optionals_are i row s at here j || false))
      ∙ always (set s.module_name s.at.offset) (is_within set s) in (
        λ met. (are.found set has nodes).0 (first_true (are_met has old) (is_met has need && true) (sym (list_all-append (is_met has) old (need ∷ [])) ∙ met)),
        λ all. list_all-append (is_met has) old (need ∷ []) ∙ both_true (are_met has old) (is_met has need && true) ((are.found set has nodes).1 all) (both_true (is_met has need) true one refl),
      );
})
  where
    count : ℕ
    count = length policy

    need : Need
    need = adds.need

    number : need.optional ≡ i + 1
    number = adds.optional_is

    next : i + 1 ≡ suc i
    next = omega arith

    low : i < length policy
    low = slice_get_within policy i s here

    around : row.optional < length policy + 1
    around = innermost-low policy i row.optional s low (nested.around i row s at here)

    chosen : (b c : Bool) → b ≡ true → (not b || (c || false)) ≡ true → c ≡ true
    chosen true true e f = refl
    chosen true false e f = f
    chosen false c e f = absurd (true≢false (sym e))

    always : (b c : Bool) → (not (b && c) || (c || false)) ≡ true
    always true true = refl
    always true false = refl
    always false c = refl

-- another statement needs nothing of the kind
pub others-other : (policy : List Placed) (rows : List Row) (i : ℕ) (s : Placed) (needs : List Need) → slice_get policy i ≡ Some s → is_optional s.form ≡ false
    → AreOthersTo policy rows i i needs → AreOthersTo policy rows i (i + 1) needs
others-other policy rows i s needs here isnt are = record {
  below = are.below;
  inside = λ has met first k r t less r_at t_at is there. elim (cases_lt k i) [
    | inl lower ↦ are.inside has met first k r t lower r_at t_at is there
    | inr past ↦
        let same : k ≡ i = omega (arith, less, past) in
        absurd (true≢false (sym is ∙ ap (λ q. is_optional q.form) (same_Some t s (sym t_at ∙ ap (slice_get policy) same ∙ here)) ∙ isnt))
  ];
  found = are.found;
}

-- what a statement in an optional asks
pub others-asks : (policy : List Placed) (rows : List Row) (i : ℕ) (row : Row) (s : Placed) (m : ℕ) (old new : List Need) → AreNested rows policy → slice_get rows i ≡ Some row → slice_get policy i ≡ Some s → row.optional ≢ 0
    → Asks policy row.optional (λ set. are_found (restricted set policy) s.namespace (references s.form) && are_there (restricted set policy) s.namespace (named_permissions s.form)) old new
    → AreOthersTo policy rows i m old → AreOthersTo policy rows (i + 1) m new
others-asks policy rows i row s m old new nested at here inside asks are = subst (AreOthersTo policy rows (i + 1) m) (sym asks.is) (record {
  below = list_all-append (is_need_within count) old asks.more ∙ both_true (list_all (is_need_within count) old) (list_all (is_need_within count) asks.more) are.below (all-within asks.more asks.below);
  inside = λ has met. are.inside has (first_true (are_met has old) (are_met has asks.more) (sym (list_all-append (is_met has) old asks.more) ∙ met));
  found = λ set has nodes.
      let found_it : Bool = are_found (restricted set policy) s.namespace (references s.form) && are_there (restricted set policy) s.namespace (named_permissions s.form) in
      let there = row-within rows policy set has nested nodes.optionals_are i row s at here in (
        λ met j t less t_at some within.
            let parts = sym (list_all-append (is_met has) old asks.more) ∙ met in
            elim (cases_lt j i) [
              | inl lower ↦ (are.found set has nodes).0 (first_true (are_met has old) (are_met has asks.more) parts) j t lower t_at some within
              | inr past ↦
                  let same : j ≡ i = omega (arith, less, past) in
                  let one : s ≡ t = same_Some s t (sym here ∙ sym (ap (slice_get policy) same) ∙ t_at) in
                  subst (λ q. missing_words (restricted set policy) q ≡ []) one
                  (missing-none (restricted set policy) s
                  (taken (has row.optional) found_it (there ∙ ap (is_within set) one ∙ within) (sym (asks.met set has nodes) ∙ second_true (are_met has old) (are_met has asks.more) parts)))
            ],
        λ all.
            list_all-append (is_met has) old asks.more
            ∙ both_true (are_met has old) (are_met has asks.more) ((are.found set has nodes).1 (λ j t less. all j t (omega (arith, less))))
            (asks.met set has nodes
            ∙ given (has row.optional) found_it
            (λ has_it. found-all (restricted set policy) s (all i s (omega arith) here (some_around row.optional inside (nested.around i row s at here)) (sym there ∙ has_it)))),
      );
})
  where
    count : ℕ
    count = length policy

    low : i < length policy
    low = slice_get_within policy i s here

    around : row.optional < length policy + 1
    around = innermost-low policy i row.optional s low (nested.around i row s at here)

    some_around : (n : ℕ) → n ≢ 0 → IsInnermost policy i n s → s.optionals ≡ [] → ⊥
    some_around zero other is = λ e. other refl
    some_around (suc k) other is = λ e. cc (sym e ∙ is.5)

    all-within : (needs : List Need) → list_all (is_need_of (length policy) row.optional) needs ≡ true → list_all (is_need_within (length policy)) needs ≡ true
    all-within [] all = refl
    all-within (need ∷ needs) all =
        let first = first_true (is_need_of (length policy) row.optional need) (list_all (is_need_of (length policy) row.optional) needs) all in
        let number : need.optional ≡ row.optional = eqb-true need.optional row.optional (first_true (need.optional == row.optional) (list_all (λ n. nat_lt n (length policy + length policy + 1)) (meeting need)) first) in
        both_true (is_need_within (length policy) need) (list_all (is_need_within (length policy)) needs)
        (both_true (nat_lt 0 need.optional) (nat_lt need.optional (length policy + 1) && list_all (λ n. nat_lt n (length policy + length policy + 1)) (meeting need)) (lt-ltb 0 need.optional (omega (arith, number, inside)))
        (both_true (nat_lt need.optional (length policy + 1)) (list_all (λ n. nat_lt n (length policy + length policy + 1)) (meeting need)) (lt-ltb need.optional (length policy + 1) (omega (arith, number, around)))
        (second_true (need.optional == row.optional) (list_all (λ n. nat_lt n (length policy + length policy + 1)) (meeting need)) first)))
        (all-within needs (second_true (is_need_of (length policy) row.optional need) (list_all (is_need_of (length policy) row.optional) needs) all))

    taken : (b c : Bool) → b ≡ true → (not b || c) ≡ true → c ≡ true
    taken true c e f = f
    taken false c e f = absurd (true≢false (sym e))

    given : (b c : Bool) → (b ≡ true → c ≡ true) → (not b || c) ≡ true
    given true c more = more refl
    given false c more = refl

-- a statement in an optional that has a need that nothing meets needs nothing more
pub others-unmet : (policy : List Placed) (rows : List Row) (i : ℕ) (row : Row) (s : Placed) (m : ℕ) (needs : List Need) → AreNested rows policy → slice_get rows i ≡ Some row → slice_get policy i ≡ Some s
    → HasUnmet needs row.optional → AreOthersTo policy rows i m needs → AreOthersTo policy rows (i + 1) m needs
others-unmet policy rows i row s m needs nested at here unmet are = record {
  below = are.below;
  inside = are.inside;
  found = λ set has nodes. (
    λ met j t less t_at some within. elim (cases_lt j i) [
      | inl lower ↦ (are.found set has nodes).0 met j t lower t_at some within
      | inr past ↦
          let same : j ≡ i = omega (arith, less, past) in
          let one : s ≡ t = same_Some s t (sym here ∙ sym (ap (slice_get policy) same) ∙ t_at) in
          absurd (drops (has row.optional) (row-within rows policy set has nested nodes.optionals_are i row s at here ∙ ap (is_within set) one ∙ within)
          ((λ k. not (has (sym unmet.optional_is k)) || list_any has (sym unmet.none k)) ∙ all-got (is_met has) needs unmet.place unmet.need met unmet.at))
    ],
    λ all. (are.found set has nodes).1 (λ j t less. all j t (omega (arith, less))),
  );
}
  where
    drops : (b : Bool) → b ≡ true → (not b || false) ≡ true → ⊥
    drops true e f = true≢false (sym f)
    drops false e f = true≢false (sym e)

-- all are gone over
pub others-all : (policy : List Placed) (rows : List Row) (n : ℕ) (needs : List Need) → length policy ≤ n → AreOthersTo policy rows n n needs → AreOthers policy rows needs
others-all policy rows n needs past are = record {
  below = are.below;
  inside = λ has met first k row s at here. are.inside has met first k row s (let low = slice_get_within policy k s here in omega (arith, low, past)) at here;
  found = λ set has nodes. (
    λ met s c. (let there = place-of policy s c in (are.found set has nodes).0 met there.0 s (let low = slice_get_within policy there.0 s there.1 in omega (arith, low, past)) there.1),
    λ all. (are.found set has nodes).1 (λ i s low at. all s (contains-place policy s i at)),
  );
}

-- the statement of a row is one of its module
pub of-row : {A : Type 0} (p : Policy A) (parsed : List (NamedModule A)) (all : List Placed) (i : ℕ) (row : Row) (d : NamedModule A) → IsReady p parsed all → (has : HasRow p all i row) → d ≡ get_or parsed row.«module» d → IsOf p d.«module».now i has.s
of-row p parsed all i row d ready has is =
    let from = from-at parsed p.rows.items all i row ready.bound.from has.row_at in
    let there = is-there parsed row d from.0 from.2 is in
    let one : from.0 ≡ has.s = same_Some from.0 has.s (sym from.1 ∙ has.at) in
    record { row = row; at = has.row_at; within = there.index; statements = there.statements; spells = there.spells; f = there.f; is = there.is; form = there.form ∙ ap (λ s. s.form) one }

-- the module of a row is there
pub module-low : {A : Type 0} (p : Policy A) (parsed : List (NamedModule A)) (all : List Placed) (i : ℕ) (row : Row) → IsReady p parsed all → HasRow p all i row → row.«module» < length parsed
module-low p parsed all i row ready has = let from = from-at parsed p.rows.items all i row ready.bound.from has.row_at in from-within parsed row from.0 from.2

-- what a class lacks it lacks in any set
there-restricted : (set : Optionals) (policy : List Placed) → AreApart policy → (namespace : List (List ℕ)) (permissions : List (Word × Word)) → are_there (restricted set policy) namespace permissions ≡ are_there policy namespace permissions
there-restricted set policy apart namespace permissions = λ k. list_all (λ q. not (lacking-restricted set policy apart namespace q k)) permissions

and-yes : (b : Bool) → b ≡ (b && true)
and-yes true = refl
and-yes false = refl

-- no permission is lacking
pub asks-there : (policy : List Placed) (o : ℕ) (s : Placed) (old new : List Need) → AreApart policy → are_there policy s.namespace (named_permissions s.form) ≡ true
    → Asks policy o (λ set. are_found (restricted set policy) s.namespace (references s.form)) old new
    → Asks policy o (λ set. are_found (restricted set policy) s.namespace (references s.form) && are_there (restricted set policy) s.namespace (named_permissions s.form)) old new
asks-there policy o s old new apart there =
    asks-same policy o (λ set. are_found (restricted set policy) s.namespace (references s.form)) (λ set. are_found (restricted set policy) s.namespace (references s.form) && are_there (restricted set policy) s.namespace (named_permissions s.form)) old new
    (λ set. and-yes (are_found (restricted set policy) s.namespace (references s.form))
    ∙ ap (λ b. are_found (restricted set policy) s.namespace (references s.form) && b) (sym (there-restricted set policy apart s.namespace (named_permissions s.form) ∙ there)))

-- a permission is lacking
pub asks-lacking : (policy : List Placed) (o : ℕ) (s : Placed) (old mid new : List Need) → AreApart policy → are_there policy s.namespace (named_permissions s.form) ≡ false → AddsNeed mid new o None
    → Asks policy o (λ set. are_found (restricted set policy) s.namespace (references s.form)) old mid
    → Asks policy o (λ set. are_found (restricted set policy) s.namespace (references s.form) && are_there (restricted set policy) s.namespace (named_permissions s.form)) old new
asks-lacking policy o s old mid new apart lacking adds =
    asks-need policy o (λ set. are_found (restricted set policy) s.namespace (references s.form)) (λ set. are_there (restricted set policy) s.namespace (named_permissions s.form)) None old mid new tt
    (λ set has nodes. sym (there-restricted set policy apart s.namespace (named_permissions s.form) ∙ lacking)) adds
