-- The kept optionals are a good set, and two sets of them are one.
use Rattle.cil_specs.proofs.Common.{◌≡◌, ℕ, Bool, true, false, not, cond, List, [], ◌∷◌, ◌++◌, map, is_some, refl, sym, ap, ◌∙◌, subst, Word, is_optional, Placed, Table, leads, references, named_permissions, is_unfound, is_lacking, missing_words, Optionals, restricted, has_innermost, IsWithin, IsGood, AreKept, AreApart}
use Rattle.std.proofs.Common.{filter, Contains, true≢false}
use Rattle.cil_specs.proofs.Runs.{first_true, second_true, both_true}
use Rattle.cil_specs.proofs.GrowsLemmas.{all-grows, leads-grows}
use Rattle.cil_specs.proofs.RestrictedLemmas.{lacking-restricted}

-- lists without elements
pub nil-append : {X : Type 0} (xs ys : List X) → xs ++ ys ≡ [] → (xs ≡ []) × (ys ≡ [])
nil-append [] ys e = (refl, e)
nil-append (x ∷ xs) ys e = absurd (cc e)

nil-map : {X Y : Type 0} (f : X → Y) (xs : List X) → map f xs ≡ [] → xs ≡ []
nil-map f [] e = refl
nil-map f (x ∷ xs) e = absurd (cc e)

-- what passes no test passes no narrower one
nil-filter : {X : Type 0} (p q : X → Bool) → ((x : X) → q x ≡ true → p x ≡ true) → (xs : List X) → filter p xs ≡ [] → filter q xs ≡ []
nil-filter p q narrower [] e = refl
nil-filter p q narrower (x ∷ xs) e = by (nil-filter p q narrower xs) (p x) refl (q x) refl e
  where
    by : (filter p xs ≡ [] → filter q xs ≡ []) → (b : Bool) → p x ≡ b → (c : Bool) → q x ≡ c → cond b (x ∷ filter p xs) (filter p xs) ≡ [] → cond c (x ∷ filter q xs) (filter q xs) ≡ []
    by more true is c isnt h = absurd (cc h)
    by more false is true isnt h = absurd (true≢false (sym (narrower x isnt) ∙ is))
    by more false is false isnt h = more h

unfound-grows : (kept more : Optionals) (policy : List Placed) → AreApart policy → IsWithin kept more → (namespace : List (List ℕ)) (r : Table × Word) → is_unfound (restricted more policy) namespace r ≡ true → is_unfound (restricted kept policy) namespace r ≡ true
unfound-grows kept more policy apart within namespace (table, word) =
    by (is_some (leads (restricted kept policy) table namespace word.text)) (is_some (leads (restricted more policy) table namespace word.text)) (leads-grows kept more policy apart table within namespace word.text)
  where
    by : (b c : Bool) → (b ≡ true → c ≡ true) → not c ≡ true → not b ≡ true
    by false c grows e = refl
    by true c grows e = absurd (true≢false (sym e ∙ ap not (grows refl)))

-- With more optionals no more words are missing.
pub missing-grows : (kept more : Optionals) (policy : List Placed) → AreApart policy → IsWithin kept more → (s : Placed) → missing_words (restricted kept policy) s ≡ [] → missing_words (restricted more policy) s ≡ []
missing-grows kept more policy apart within s none =
    let parts = nil-append (map (λ r. r.1) (filter (is_unfound (restricted kept policy) s.namespace) (references s.form))) (map (λ p. p.1) (filter (is_lacking (restricted kept policy) s.namespace) (named_permissions s.form))) none in
    let unfound : filter (is_unfound (restricted more policy) s.namespace) (references s.form) ≡ [] =
    nil-filter (is_unfound (restricted kept policy) s.namespace) (is_unfound (restricted more policy) s.namespace) (unfound-grows kept more policy apart within s.namespace) (references s.form)
    (nil-map (λ r. r.1) (filter (is_unfound (restricted kept policy) s.namespace) (references s.form)) parts.0) in
    let lacking : filter (is_lacking (restricted more policy) s.namespace) (named_permissions s.form) ≡ [] =
    nil-filter (is_lacking (restricted kept policy) s.namespace) (is_lacking (restricted more policy) s.namespace) (λ r e. lacking-restricted kept policy apart s.namespace r ∙ sym (lacking-restricted more policy apart s.namespace r) ∙ e) (named_permissions s.form)
    (nil-map (λ p. p.1) (filter (is_lacking (restricted kept policy) s.namespace) (named_permissions s.form)) parts.1) in
    λ k. map (λ r. r.1) (unfound k) ++ map (λ p. p.1) (lacking k)

-- a good set is within the kept optionals
pub good-within : (policy : List Placed) (kept set : Optionals) → AreKept policy kept → IsGood policy set → IsWithin set kept
good-within policy kept set are good name at has = (are name at).1 (set, good, has)

-- the kept optionals are a good set
pub kept-good : (policy : List Placed) (kept : Optionals) → AreApart policy → AreKept policy kept → IsGood policy kept
kept-good policy kept apart are = record {
  of_policy = λ name at has. let by = (are name at).0 has in by.1.of_policy name at by.2;
  around = λ s is_in member.
      let by = (are s.module_name s.at.offset).0 (second_true (is_optional s.form) (kept s.module_name s.at.offset) member) in
      let inside = by.1.around s is_in (both_true (is_optional s.form) (by.0 s.module_name s.at.offset) (first_true (is_optional s.form) (kept s.module_name s.at.offset) member) by.2) in
      all-grows (by.0 s.module_name) (kept s.module_name) (good-within policy kept by.0 are by.1 s.module_name) s.optionals inside;
  found = λ s is_in direct. found s is_in s.optionals refl direct;
}
  where
    found : (s : Placed) → Contains policy s → (optionals : List ℕ) → s.optionals ≡ optionals → has_innermost kept s.module_name optionals ≡ true → missing_words (restricted kept policy) s ≡ []
    found s is_in [] is direct = absurd (true≢false (sym direct))
    found s is_in (at ∷ outer) is direct =
        let by = (are s.module_name at).0 direct in
        missing-grows by.0 kept policy apart (good-within policy kept by.0 are by.1) s (by.1.found s is_in (subst (λ l. has_innermost by.0 s.module_name l ≡ true) (sym is) by.2))

one-test : (b c : Bool) → (b ≡ true → c ≡ true) → (c ≡ true → b ≡ true) → b ≡ c
one-test true c there back = sym (there refl)
one-test false true there back = back refl
one-test false false there back = refl

-- two sets of kept optionals are one
pub kept-one : (policy : List Placed) (kept others : Optionals) → AreKept policy kept → AreKept policy others → kept ≡ others
kept-one policy kept others are are' = λ k name at. one-test (kept name at) (others name at) (λ has. (are' name at).1 ((are name at).0 has)) (λ has. (are name at).1 ((are' name at).0 has)) k
