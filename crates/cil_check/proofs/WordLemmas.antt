-- Words with faults, one by one.
use Rattle.cil_check.proofs.Common.{◌≡◌, ℕ, ◌<◌, zero, suc, arith, Bool, true, false, not, ◌&&◌, ◌||◌, List, [], ◌∷◌, ◌++◌, length, take, drop, filter, map, fold, Contains, ◌+◌, cond, Option, Some, None, is_some, position, bytes_eq, refl, sym, ap, ◌∙◌, subst, true≢false, if◌then◌else◌, option_or, option_and_then, option_to_list, find, list_any, none-some, same_Some, list_any-append, or-false, bytes_eq-Decides, Word, Form, alias_actual, class, class_common, is_optional, Placed, Table, declares, types, classes, declared_in, is_same, is_word, same_namespace, word_text, holds_of, leads, has_name, with_name, distinct, gives_actual, actual_statement, is_alias, PolicyFault, twice, tables, is_again, twice_words, IsFaultOf, has_earlier_actual, has_earlier_common, is_unset, is_class, both_true, contains-first, IsFirstOf, IsLead, first_at, association_table, given_word, given_lead, gives, HasFirsts, word_if, again_words, Association, bytes_eq-true, around-at, at_if, any-position, is_before, any-before}
use Rattle.std.proofs.Common.{flat_map, option_map, slice_get}
use Rattle.cil_check.specs.declared.firsts.Association.TheVariants as association
use Rattle.cil_check.proofs.PositionLemmas.{position-next, position-more, any-same, find-position}

-- below the length there is an element
pub none-there : {X : Type 0} (xs : List X) (n : ℕ) → slice_get xs n ≡ None → n < length xs → ⊥
none-there [] n e within = omega (arith, within)
none-there (x ∷ xs) zero e within = none-some x (sym e)
none-there (x ∷ xs) (suc n) e within = none-there xs n e (omega (arith, within))

-- where a look-up leads, with what is known of the place
pub record Led (table : Table) (policy : List Placed) (place : ℕ) (lead : Option Placed) : Type 0 where
  pub s : Placed
  pub at : slice_get policy place ≡ Some s
  pub is : lead ≡ Some s
  pub first : IsFirstOf table policy place

pub led-at : (table : Table) (policy : List Placed) (place : ℕ) (lead : Option Placed) → IsLead table policy (Some place) lead → Led table policy place lead
led-at table policy place lead led = by (slice_get policy place) refl
  where
    by : (o : Option Placed) → slice_get policy place ≡ o → Led table policy place lead
    by None e = absurd (none-there policy place e led.within)
    by (Some s) e = record { s = s; at = e; is = sym led.is ∙ e; first = led.first }

pub words-cons : {X : Type 0} (p : X → Bool) (f : X → Word) (x : X) (xs : List X) → slice_get (map f (filter p (x ∷ xs))) 0 ≡ option_or (word_if (p x) (f x)) (slice_get (map f (filter p xs)) 0)
words-cons p f x xs = by (p x)
  where
    by : (b : Bool) → slice_get (map f (cond b (x ∷ filter p xs) (filter p xs))) 0 ≡ option_or (word_if b (f x)) (slice_get (map f (filter p xs)) 0)
    by true = refl
    by false = refl

pub or-map : {X Y : Type 0} (f : X → Y) (a b : Option X) → option_map f (option_or a b) ≡ option_or (option_map f a) (option_map f b)
or-map f None b = refl
or-map f (Some x) b = refl

-- names, each once, are the same names
has-with : (names : List (List ℕ)) (name n : List ℕ) → has_name (with_name names n) name ≡ (has_name names name || bytes_eq name n)
has-with names name n = by (has_name names n) refl
  where
    last : (l : List (List ℕ)) → list_any (bytes_eq name) (l ++ n ∷ []) ≡ (list_any (bytes_eq name) l || bytes_eq name n)
    last l = list_any-append (bytes_eq name) l (n ∷ []) ∙ ap (λ b. list_any (bytes_eq name) l || b) (or-false (bytes_eq name n))

    there : (b : Bool) → bytes_eq name n ≡ b → has_name names n ≡ true → has_name names name ≡ (has_name names name || b)
    there true e has = let same : name ≡ n = bytes_eq-true name n e in
        let here : has_name names name ≡ true = ap (has_name names) same ∙ has in
        here ∙ ap (λ b. b || true) (sym here)
    there false e has = sym (or-false (has_name names name))

    by : (b : Bool) → has_name names n ≡ b → has_name (if b then names else names ++ n ∷ []) name ≡ (has_name names name || bytes_eq name n)
    by true e = there (bytes_eq name n) refl e
    by false e = last names

or-assoc : (a b c : Bool) → ((a || b) || c) ≡ (a || (b || c))
or-assoc true b c = refl
or-assoc false b c = refl

pub has-fold : (names more : List (List ℕ)) (name : List ℕ) → has_name (fold with_name names more) name ≡ (has_name names name || has_name more name)
has-fold names [] name = sym (or-false (has_name names name))
has-fold names (n ∷ more) name =
    has-fold (with_name names n) more name ∙ ap (λ b. b || has_name more name) (has-with names name n) ∙ or-assoc (has_name names name) (bytes_eq name n) (has_name more name)

pub has-distinct : (names : List (List ℕ)) (name : List ℕ) → has_name (distinct names) name ≡ has_name names name
has-distinct names name = has-fold [] names name

find-same : {X : Type 0} (p q : X → Bool) → ((x : X) → p x ≡ q x) → (xs : List X) → find p xs ≡ find q xs
find-same p q same [] = refl
find-same p q same (x ∷ xs) = ap (λ b. cond b (Some x) (find p xs)) (same x) ∙ ap (λ o. cond (q x) (Some x) o) (find-same p q same xs)

abbrev pub again_if : Association → List Placed → List Placed → Placed → Word → Option Word
again_if g policy before t w = word_if (holds_of (λ s. list_any (gives g policy s) before) (leads policy (association_table g) t.namespace w.text)) w

pub filter-one : (p : Word → Bool) (w : Word) → slice_get (filter p (w ∷ [])) 0 ≡ word_if (p w) w
filter-one p w = by (p w)
  where
    by : (b : Bool) → slice_get (cond b (w ∷ []) []) 0 ≡ word_if b w
    by true = refl
    by false = refl

pub again-word : (g : Association) (policy before : List Placed) (t : Placed) → slice_get (again_words g policy before t) 0 ≡ option_and_then (again_if g policy before t) (given_word g t.form)
again-word g policy before t = by g t.form
  where
    by : (g : Association) (form : Form) → slice_get (again_words g policy before (record { module_name = t.module_name; at = t.at; form = form; namespace = t.namespace; optionals = t.optionals })) 0
        ≡ option_and_then (again_if g policy before t) (given_word g form)
    by association.Actual (alias_actual alias actual) =
        filter-one (has_earlier_actual policy before t.namespace) alias
    by association.Common (class_common the_class the_common) =
        filter-one (has_earlier_common policy before t.namespace) the_class
    by _ _ = refl

-- the noted place tells whether an earlier statement gives something
pub again-noted : (g : Association) (policy : List Placed) (place : ℕ) (t : Placed) (word : Word) (firsts : List (ℕ × ℕ)) (found : Option ℕ) → HasFirsts g policy firsts → Some word ≡ given_word g t.form
    → IsLead (association_table g) policy found (given_lead g policy t)
    → slice_get (again_words g policy (take place policy) t) 0 ≡ word_if (is_before (option_and_then (first_at firsts) found) place) word
again-noted g policy place t word firsts found has is led =
    again-word g policy (take place policy) t ∙ ap (option_and_then (again_if g policy (take place policy) t)) (sym is)
    ∙ ap (λ o. word_if (holds_of given o) word) (ap (option_and_then (λ w. leads policy (association_table g) t.namespace w.text)) is) ∙ by found led
  where
    given : Placed → Bool
    given s = list_any (gives g policy s) (take place policy)

    at : (k : ℕ) → Led (association_table g) policy k (given_lead g policy t) → word_if (holds_of given (given_lead g policy t)) word ≡ word_if (is_before (first_at firsts k) place) word
    at k lead =
        ap (λ o. word_if (holds_of given o) word) lead.is ∙ ap (λ b. word_if b word) (any-before (gives g policy lead.s) place policy)
        ∙ ap (λ o. word_if (is_before o place) word) (sym (has k lead.s lead.at lead.first))

    by : (found : Option ℕ) → IsLead (association_table g) policy found (given_lead g policy t)
        → word_if (holds_of given (given_lead g policy t)) word ≡ word_if (is_before (option_and_then (first_at firsts) found) place) word
    by None led = ap (λ o. word_if (holds_of given o) word) (sym led.is)
    by (Some k) led = at k (led-at (association_table g) policy k (given_lead g policy t) led)

-- an alias that a word leads to is unset where no place is noted
pub unset-noted : (policy : List Placed) (namespace : List (List ℕ)) (word : Word) (firsts : List (ℕ × ℕ)) (place : ℕ) (lead : Led types policy place (leads policy types namespace word.text))
    → HasFirsts association.Actual policy firsts → is_unset policy namespace word ≡ (is_alias lead.s.form && not (is_some (first_at firsts place)))
unset-noted policy namespace word firsts place lead has =
    ap (holds_of (λ s. is_alias s.form && not (is_some (actual_statement policy s)))) lead.is
    ∙ ap (λ b. is_alias lead.s.form && not b)
    (ap is_some (find-same (λ t. gives_actual policy lead.s t.namespace t.form) (gives association.Actual policy lead.s) (λ t. refl) policy)
    ∙ find-position (gives association.Actual policy lead.s) policy ∙ ap is_some (sym (has place lead.s lead.at lead.first)))

pub unset-first : (policy : List Placed) (namespace : List (List ℕ)) (word : Word) (firsts : List (ℕ × ℕ)) (place : ℕ) (alias : Bool)
    → IsLead types policy (Some place) (leads policy types namespace word.text) → HasFirsts association.Actual policy firsts
    → ((s : Placed) → slice_get policy place ≡ Some s → alias ≡ is_alias s.form)
    → word_if (is_unset policy namespace word) word ≡ word_if (alias && not (is_some (first_at firsts place))) word
unset-first policy namespace word firsts place alias led has is =
    let lead = led-at types policy place (leads policy types namespace word.text) led in
    ap (λ b. word_if b word) (unset-noted policy namespace word firsts place lead has ∙ ap (λ b. b && not (is_some (first_at firsts place))) (sym (is lead.s lead.at)))

and-true : (b : Bool) → (b && true) ≡ b
and-true true = refl
and-true false = refl

pub same-itself : (namespace : List (List ℕ)) → same_namespace namespace namespace ≡ true
same-itself [] = refl
same-itself (name ∷ names) = both_true (bytes_eq name name) (same_namespace names names) ((bytes_eq-Decides name name).1 refl) (same-itself names)

-- no class stands behind another of its name, where none is declared twice
not-again : (policy : List Placed) (i : ℕ) (s : Placed) (id : Word) (permissions : List Word) → ((fault : PolicyFault) → IsFaultOf twice policy fault → ⊥) → slice_get policy i ≡ Some s
    → s.form ≡ class id permissions → list_any (declares classes s.namespace id.text) (take i policy) ≡ true → ⊥
not-again policy i s id permissions once is form earlier =
    once (record { kind = twice; module_name = s.module_name; at = id.at; word = id.text })
    (record { before = take i policy; s = s; after = drop (i + 1) policy; word = id; split = around-at policy i s is; is_faulty = faulty; is_at = refl })
  where
    again : list_any (is_again classes s id) (take i policy) ≡ true
    again =
        any-same (is_again classes s id) (declares classes s.namespace id.text)
        (λ t. ap (λ f. declares classes s.namespace id.text t && not (is_optional f && is_optional t.form)) form ∙ and-true (declares classes s.namespace id.text t)) (take i policy)
        ∙ earlier

    words : twice_words (take i policy) s ≡ id ∷ []
    words =
        ap (λ f. flat_map (λ table. filter (λ w. list_any (is_again table s w) (take i policy)) (option_to_list (declared_in table f))) tables) form
        ∙ ap (λ b. cond b (id ∷ []) [] ++ []) again

    faulty : Contains (twice_words (take i policy) s) id
    faulty = subst (λ l. Contains l id) (sym words) (contains-first id [])

first-of-class : (policy : List Placed) (i : ℕ) (s : Placed) (id : Word) (permissions : List Word) → ((fault : PolicyFault) → IsFaultOf twice policy fault → ⊥) → slice_get policy i ≡ Some s
    → s.form ≡ class id permissions → position (is_same classes s) policy ≡ Some i
first-of-class policy i s id permissions once is form = by (position (is_same classes s) policy) refl
  where
    named : word_text (declared_in classes s.form) ≡ id.text
    named = ap (λ f. word_text (declared_in classes f)) form

    itself : is_same classes s s ≡ true
    itself =
        ap (λ n. declares classes s.namespace n s) named ∙ ap (λ f. is_word id.text (declared_in classes f) && same_namespace s.namespace s.namespace) form
        ∙ both_true (bytes_eq id.text id.text) (same_namespace s.namespace s.namespace) ((bytes_eq-Decides id.text id.text).1 refl) (same-itself s.namespace)

    none_earlier : list_any (is_same classes s) (take i policy) ≡ false
    none_earlier = no (list_any (is_same classes s) (take i policy)) refl
      where
        no : (b : Bool) → list_any (is_same classes s) (take i policy) ≡ b → list_any (is_same classes s) (take i policy) ≡ false
        no true e = absurd (not-again policy i s id permissions once is form (ap (λ n. list_any (declares classes s.namespace n) (take i policy)) (sym named) ∙ e))
        no false e = e

    next : position (is_same classes s) (take (i + 1) policy) ≡ Some i
    next = position-next (is_same classes s) policy i s is ∙ alone (position (is_same classes s) (take i policy)) refl
      where
        alone : (o : Option ℕ) → position (is_same classes s) (take i policy) ≡ o → option_or o (at_if (is_same classes s s) i) ≡ Some i
        alone None e = ap (λ b. at_if b i) itself
        alone (Some m) e = absurd (true≢false (sym (ap is_some e) ∙ sym (any-position (is_same classes s) (take i policy)) ∙ none_earlier))

    by : (o : Option ℕ) → position (is_same classes s) policy ≡ o → position (is_same classes s) policy ≡ Some i
    by o e = position-more (is_same classes s) policy (i + 1) i next

pub once-first : (policy : List Placed) (i : ℕ) (s : Placed) → ((fault : PolicyFault) → IsFaultOf twice policy fault → ⊥) → slice_get policy i ≡ Some s → is_class s.form ≡ true
    → IsFirstOf classes policy i
once-first policy i s once is its t at = ap (λ u. position (is_same classes u) policy) (same_Some t s (sym at ∙ is)) ∙ by s.form refl its
  where
    by : (form : Form) → s.form ≡ form → is_class form ≡ true → position (is_same classes s) policy ≡ Some i
    by (class id permissions) e c = first-of-class policy i s id permissions once is e
    by _ e c = absurd (true≢false (sym c))
