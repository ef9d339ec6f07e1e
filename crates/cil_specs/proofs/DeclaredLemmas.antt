-- Where no name is declared twice, each stands in one statement, and is found in a set of optionals if that one stands within it.
use Rattle.cil_specs.proofs.Common.{◌≡◌, ℕ, Bool, true, false, not, ◌&&◌, ◌||◌, cond, List, [], ◌∷◌, ◌++◌, Option, Some, None, is_some, bytes_eq, refl, sym, ap, ◌∙◌, subst, append_assoc, if◌then◌else◌, find, list_any, none-some, bytes_eq-Decides, and-true, Word, Form, optional, is_optional, Placed, Optionals, is_within, restricted, Table, types, classes, commons, permission_sets, scopes, declared_in, is_word, same_namespace, declares, declaration, holds_of, PolicyFault, twice, is_again, twice_words, IsFaultOf}
use Rattle.std.proofs.Common.{filter, Contains, true≢false}
use Rattle.cil_specs.proofs.Runs.{first_true, second_true}
use Rattle.cil_specs.proofs.NamesLemmas.{contains-first}
use Rattle.cil_specs.proofs.RestrictedLemmas.{filter-yes, filter-no}
use Rattle.cil_specs.proofs.OnceLemmas.{twice-some, passes-among, any-middle}

-- at most one element passes a test
abbrev pub AtMostOne : {X : Type 0} → (X → Bool) → List X → Type 0
AtMostOne p [] = Unit {0}
AtMostOne p (x ∷ xs) = (p x ≡ true → list_any p xs ≡ false) × AtMostOne p xs

none-found : {X : Type 0} (p t : X → Bool) (xs : List X) → list_any p xs ≡ false → is_some (find p (filter t xs)) ≡ false
none-found p t [] none = refl
none-found p t (x ∷ xs) none = by (p x) refl (t x) refl none (none-found p t xs)
  where
    by : (b : Bool) → p x ≡ b → (c : Bool) → t x ≡ c → (b || list_any p xs) ≡ false → (list_any p xs ≡ false → is_some (find p (filter t xs)) ≡ false) → is_some (find p (filter t (x ∷ xs))) ≡ false
    by true e c f none more = absurd (true≢false none)
    by false e true f none more = ap (λ l. is_some (find p l)) (filter-yes t x xs f) ∙ ap (λ b. is_some (cond b (Some x) (find p (filter t xs)))) e ∙ more none
    by false e false f none more = ap (λ l. is_some (find p l)) (filter-no t x xs f) ∙ more none

-- the one that passes is found among those that pass a second test, if it passes that
one-found : (p t : Placed → Bool) (xs : List Placed) → AtMostOne p xs → is_some (find p (filter t xs)) ≡ holds_of t (find p xs)
one-found p t [] one = refl
one-found p t (x ∷ xs) one = by (p x) refl (t x) refl (one-found p t xs one.1)
  where
    by : (b : Bool) → p x ≡ b → (c : Bool) → t x ≡ c → is_some (find p (filter t xs)) ≡ holds_of t (find p xs) → is_some (find p (filter t (x ∷ xs))) ≡ holds_of t (cond b (Some x) (find p xs))
    by true e true f more = ap (λ l. is_some (find p l)) (filter-yes t x xs f) ∙ ap (λ b. is_some (cond b (Some x) (find p (filter t xs)))) e ∙ sym f
    by true e false f more = ap (λ l. is_some (find p l)) (filter-no t x xs f) ∙ none-found p t xs (one.0 e) ∙ sym f
    by false e true f more = ap (λ l. is_some (find p l)) (filter-yes t x xs f) ∙ ap (λ b. is_some (cond b (Some x) (find p (filter t xs)))) e ∙ more
    by false e false f more = ap (λ l. is_some (find p l)) (filter-no t x xs f) ∙ more

-- what declares a name in another table than that of blocks and optionals is no optional
not-optional : (table : Table) (form : Form) (id : Word) → (table ≡ scopes → ⊥) → declared_in table form ≡ Some id → is_optional form ≡ false
not-optional types (optional id) w other e = absurd (none-some w e)
not-optional classes (optional id) w other e = absurd (none-some w e)
not-optional commons (optional id) w other e = absurd (none-some w e)
not-optional permission_sets (optional id) w other e = absurd (none-some w e)
not-optional scopes (optional id) w other e = absurd (other refl)
not-optional table _ w other e = refl

-- the word of a name that a statement declares
record Named (name : List ℕ) (o : Option Word) : Type 0 where
  word : Word
  is : o ≡ Some word
  named : word.text ≡ name

is-named : (name : List ℕ) (o : Option Word) → is_word name o ≡ true → Named name o
is-named name None e = absurd (true≢false (sym e))
is-named name (Some w) e = record { word = w; is = refl; named = (bytes_eq-Decides w.text name).0 e }

pub one-namespace : (xs ys : List (List ℕ)) → same_namespace xs ys ≡ true → xs ≡ ys
one-namespace [] [] e = refl
one-namespace [] (y ∷ ys) e = absurd (true≢false (sym e))
one-namespace (x ∷ xs) [] e = absurd (true≢false (sym e))
one-namespace (x ∷ xs) (y ∷ ys) e =
    let first = (bytes_eq-Decides x y).0 (first_true (bytes_eq x y) (same_namespace xs ys) e) in
    let others = one-namespace xs ys (second_true (bytes_eq x y) (same_namespace xs ys) e) in
    ap (λ z. z ∷ xs) first ∙ ap (λ l. y ∷ l) others

module _ (policy : List Placed) (once : (fault : PolicyFault) → IsFaultOf twice policy fault → ⊥) (table : Table) (other : table ≡ scopes → ⊥) (namespace : List (List ℕ)) (name : List ℕ) where
  -- a statement that declares the name stands behind none that does
  not-again : (before : List Placed) (s : Placed) (after : List Placed) → policy ≡ before ++ s ∷ after → declares table namespace name s ≡ true → list_any (declares table namespace name) before ≡ true → ⊥
  not-again before s after split declared earlier =
      once (record { kind = twice; module_name = s.module_name; at = id.at; word = id.text })
      (record { before = before; s = s; after = after; word = id; split = split; is_faulty = faulty; is_at = refl })
    where
      has : Named name (declared_in table s.form)
      has = is-named name (declared_in table s.form) (first_true (is_word name (declared_in table s.form)) (same_namespace s.namespace namespace) declared)

      id : Word
      id = has.word

      here : s.namespace ≡ namespace
      here = one-namespace s.namespace namespace (second_true (is_word name (declared_in table s.form)) (same_namespace s.namespace namespace) declared)

      alike : (t : Placed) → is_again table s id t ≡ declares table namespace name t
      alike t =
          ap (λ b. declares table s.namespace id.text t && not (b && is_optional t.form)) (not-optional table s.form id other has.is)
          ∙ and-true (declares table s.namespace id.text t) ∙ (λ i. declares table (here i) (has.named i) t)

      again : list_any (is_again table s id) before ≡ true
      again = (λ i. list_any (λ t. alike t i) before) ∙ earlier

      faulty : Contains (twice_words before s) id
      faulty = subst (λ l. Contains l id) (sym (twice-some before s table id has.is ∙ ap (λ b. if b then id ∷ [] else []) again)) (contains-first id [])

  -- of the last statements, each that declares the name has none behind it
  alone : (before statements : List Placed) → policy ≡ before ++ statements → AtMostOne (declares table namespace name) statements
  alone before [] split = tt
  alone before (s ∷ statements) split = (none, alone (before ++ s ∷ []) statements next)
    where
      next : policy ≡ (before ++ s ∷ []) ++ statements
      next = split ∙ sym (append_assoc before (s ∷ []) statements)

      none : declares table namespace name s ≡ true → list_any (declares table namespace name) statements ≡ false
      none declared = by (list_any (declares table namespace name) statements) refl
        where
          by : (b : Bool) → list_any (declares table namespace name) statements ≡ b → list_any (declares table namespace name) statements ≡ false
          by false e = e
          by true e =
              let last = passes-among (declares table namespace name) statements e in
              let split_there : policy ≡ (before ++ s ∷ last.before) ++ last.x ∷ last.after =
              split ∙ ap (λ l. before ++ s ∷ l) last.split ∙ sym (append_assoc before (s ∷ last.before) (last.x ∷ last.after)) in
              absurd (not-again (before ++ s ∷ last.before) last.x last.after split_there last.passes (any-middle (declares table namespace name) before s last.before declared))

  -- at most one statement declares a name
  pub declared-once : AtMostOne (declares table namespace name) policy
  declared-once = alone [] policy refl

-- a name has a declaration in a set of optionals if its one declaration stands within it
pub declared-within : (set : Optionals) (policy : List Placed) (table : Table) (namespace : List (List ℕ)) (name : List ℕ) → AtMostOne (declares table namespace name) policy
    → is_some (declaration (restricted set policy) table namespace name) ≡ holds_of (is_within set) (find (declares table namespace name) policy)
declared-within set policy table namespace name one = one-found (declares table namespace name) (is_within set) policy one
