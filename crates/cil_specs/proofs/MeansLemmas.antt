-- What the set statements of a policy that compiles name is what it keeps.
use Rattle.cil_specs.proofs.Common.{◌≡◌, ℕ, inl, inr, Bool, true, false, not, ◌&&◌, cond, if◌then◌else◌, List, [], ◌∷◌, ◌++◌, map, Option, Some, None, is_some, bytes_eq, refl, sym, ap, ◌∙◌, subst, arith, list_all, list_any, option_or, option_and_then, IfSome, IfSome_then, bytes_eq-Decides, Place, Word, components, Expr, every, named, opposite, both, either, one_of, nothing, elements, leaves, map_leaves, Form, type_name, type_alias, alias_actual, type_attribute, attribute_set, Placed, Table, types, declared_in, declared_name, declares, declaration, has_block, outward, nearest_block, inside, from_namespace, is_global, leads, references, named_permissions, gives_actual, actual_statement, actual_in, actual_of, holds_of, is_type, is_alias, is_attribute, PolicyFaultKind, missing, wrong_kind, alias_unset, circular, is_outside, is_unfound, is_lacking, missing_words, kinds_asked, is_of_another_kind, wrong_kind_words, element_words, is_unset, alias_unset_words, IsFaulty, IsCircular, IsFaultOf, Optionals, is_within, has_innermost, restricted, AreKept, AreApart, Compiles, dropped_of, Element, Declared, SetStatement, declared_as, attributes_of, name_or_none, element_at, element_or_none, element_of, set_statement_of, sets_of, DependsOn, Meaning, meaning_of, Means, keeps_type}
use Rattle.std.proofs.Common.{filter, flat_map, find, Contains, true≢false}
use Rattle.std.proofs.lemmas.Grind.{flat_map-append}
use Rattle.cil_specs.specs.Members.{keeps_attribute, keeps_element, HasOwnSets, HasSoundSets}
use Rattle.cil_specs.proofs.Runs.{first_true}
use Rattle.cil_specs.proofs.NamesLemmas.{all-contained, around, contains-first, contains-other, contains-cases, contains-map, contains-mapped, contains-middle, passed}
use Rattle.cil_specs.proofs.RestrictedLemmas.{declares-some}
use Rattle.cil_specs.proofs.KeptLemmas.{nil-append, kept-good}
use Rattle.cil_specs.proofs.FaultWords.{contains-filtered, contains-left, contains-right, contains-append_cases}
use Rattle.cil_specs.proofs.DependsLemmas.{any-contained, first-step}
use Rattle.cil_specs.proofs.OnceLemmas.{passes-among}
use Rattle.cil_specs.proofs.CircularLemmas.{attribute-word}

-- what a search finds is there and passes
find-there : {X : Type 0} (p : X → Bool) (xs : List X) → IfSome (find p xs) (λ x. Contains xs x × (p x ≡ true))
find-there p [] = tt
find-there {X} p (x ∷ xs) = by (p x) refl (find-there p xs)
  where
    by : (b : Bool) → p x ≡ b → IfSome (find p xs) (λ y. Contains xs y × (p y ≡ true)) → IfSome (cond b (Some x) (find p xs)) (λ y. Contains (x ∷ xs) y × (p y ≡ true))
    by true e more = (contains-first x xs, e)
    by false e more = IfSome_then (find p xs) more (λ y is. (contains-other x xs y is.0, is.1))

-- a statement of the policy that declares a name in the table
pub record IsDeclared (policy : List Placed) (table : Table) (t : Placed) : Type 0 where
  pub there : Contains policy t
  pub declares_one : is_some (declared_in table t.form) ≡ true

-- Where a name leads.
module _ (policy : List Placed) (table : Table) where
  Led : Option Placed → Type 0
  Led o = IfSome o (IsDeclared policy table)

  declaration-led : (namespace : List (List ℕ)) (name : List ℕ) → Led (declaration policy table namespace name)
  unfolding Led
  declaration-led namespace name =
      IfSome_then (declaration policy table namespace name) (find-there (declares table namespace name) policy)
      (λ t is. record { there = is.0; declares_one = declares-some table namespace name t is.1 })

  or-led : (o p : Option Placed) → Led o → Led p → Led (option_or o p)
  unfolding Led
  or-led None p a b = b
  or-led (Some t) p a b = a

  if-led : (b : Bool) (o p : Option Placed) → Led o → Led p → Led (if b then o else p)
  unfolding Led
  if-led true o p a b = a
  if-led false o p a b = b

  none-led : Led None
  unfolding Led
  none-led = tt

  then-led : (f : List (List ℕ) → Option Placed) (o : Option (List (List ℕ))) → ((namespace : List (List ℕ)) → Led (f namespace)) → Led (option_and_then f o)
  unfolding Led
  then-led f None each = tt
  then-led f (Some namespace) each = each namespace

  outward-led : (namespace : List (List ℕ)) (name : List ℕ) → Led (outward policy table namespace name)
  outward-led [] name = declaration-led [] name
  outward-led (inner ∷ outer) name = or-led (declaration policy table (inner ∷ outer) name) (outward policy table outer name) (declaration-led (inner ∷ outer) name) (outward-led outer name)

  inside-led : (namespace names : List (List ℕ)) → Led (inside policy table namespace names)
  inside-led namespace [] = none-led
  inside-led namespace (name ∷ []) = declaration-led namespace name
  inside-led namespace (name ∷ next ∷ more) = if-led (has_block policy namespace name) (inside policy table (name ∷ namespace) (next ∷ more)) None (inside-led (name ∷ namespace) (next ∷ more)) none-led

  from-led : (namespace names : List (List ℕ)) → Led (from_namespace policy table namespace names)
  from-led namespace [] = none-led
  from-led namespace (name ∷ []) = outward-led namespace name
  from-led namespace (name ∷ next ∷ more) = then-led (λ inner. inside policy table inner (next ∷ more)) (nearest_block policy namespace name) (λ inner. inside-led inner (next ∷ more))

  leads-led : (namespace : List (List ℕ)) (text : List ℕ) → Led (leads policy table namespace text)
  leads-led namespace text = if-led (is_global text) (inside policy table [] (components text)) (from_namespace policy table namespace (components text)) (inside-led [] (components text)) (from-led namespace (components text))

  pub declared-led : (namespace : List (List ℕ)) (text : List ℕ) (t : Placed) → leads policy table namespace text ≡ Some t → IsDeclared policy table t
  unfolding Led
  declared-led namespace text t e = subst (λ o. IfSome o (IsDeclared policy table)) e (leads-led namespace text)

-- a list that has no element
pub no-elements : {X : Type 0} (xs : List X) → ((x : X) → Contains xs x → ⊥) → xs ≡ []
no-elements [] none = refl
no-elements (x ∷ xs) none = absurd (none x (contains-first x xs))

-- where nothing is left of those that pass a test, none passes
each-fails : {X Y : Type 0} (f : X → Y) (p : X → Bool) (xs : List X) (x : X) → map f (filter p xs) ≡ [] → Contains xs x → p x ≡ false
each-fails f p [] x none c = absurd (omega (arith, c.1))
each-fails {X} {Y} f p (y ∷ ys) x none c = by (p y) refl none (each-fails f p ys x)
  where
    by : (b : Bool) → p y ≡ b → map f (cond b (y ∷ filter p ys) (filter p ys)) ≡ [] → (map f (filter p ys) ≡ [] → Contains ys x → p x ≡ false) → p x ≡ false
    by true e left more = absurd (cc left)
    by false e left more = elim (contains-cases y ys x c) [ inl same ↦ sym (ap p same) ∙ e | inr other ↦ more left other ]

is-not-false : (b : Bool) → not b ≡ false → b ≡ true
is-not-false true e = refl
is-not-false false e = absurd (true≢false e)

-- each element that one of the elements gives
pub contains-flat : {X Y : Type 0} (f : X → List Y) (xs : List X) (x : X) (y : Y) → Contains xs x → Contains (f x) y → Contains (flat_map f xs) y
contains-flat f xs x y c d =
    let a = around xs x c in
    subst (λ l. Contains l y) (sym (ap (flat_map f) a.whole ∙ flat_map-append f a.before (x ∷ a.after)))
    (contains-right (flat_map f a.before) (f x ++ flat_map f a.after) y (contains-left (f x) (flat_map f a.after) y d))

pub flat-contains : {X Y : Type 0} (f : X → List Y) (xs : List X) (y : Y) → Contains (flat_map f xs) y → (x : X) × Contains xs x × Contains (f x) y
flat-contains f [] y c = absurd (omega (arith, c.1))
flat-contains f (x ∷ xs) y c = elim (contains-append_cases (f x) (flat_map f xs) y c) [
  | inl here ↦ (x, contains-first x xs, here)
  | inr there ↦ (let more = flat-contains f xs y there in (more.0, contains-other x xs more.0 more.1, more.2))
]

leaves-append : {leaf other : Type 0} (f : leaf → other) (xs ys : List leaf) → map f xs ++ map f ys ≡ map f (xs ++ ys)
leaves-append f [] ys = refl
leaves-append f (x ∷ xs) ys = ap (λ l. f x ∷ l) (leaves-append f xs ys)

pub leaves-mapped : {leaf other : Type 0} (f : leaf → other) (e : Expr leaf) → leaves (map_leaves f e) ≡ map f (leaves e)
leaves-mapped f every = refl
leaves-mapped f (named l) = refl
leaves-mapped f (opposite x) = leaves-mapped f x
leaves-mapped f (both x y) = (λ i. leaves-mapped f x i ++ leaves-mapped f y i) ∙ leaves-append f (leaves x) (leaves y)
leaves-mapped f (either x y) = (λ i. leaves-mapped f x i ++ leaves-mapped f y i) ∙ leaves-append f (leaves x) (leaves y)
leaves-mapped f (one_of x y) = (λ i. leaves-mapped f x i ++ leaves-mapped f y i) ∙ leaves-append f (leaves x) (leaves y)
leaves-mapped f nothing = refl
leaves-mapped f (elements x more) = (λ i. leaves-mapped f x i ++ leaves-mapped f more i) ∙ leaves-append f (leaves x) (leaves more)

-- Statements have all their names found, each of the kind that is asked, and none names an alias without an actual type.
pub record IsNamed (policy : List Placed) (s : Placed) : Type 0 where
  pub found : missing_words policy s ≡ []
  pub kinds : wrong_kind_words policy s ≡ []
  pub set : alias_unset_words policy s ≡ []

module _ (policy : List Placed) (dropped : List Declared) (each : (s : Placed) → Contains policy s → IsNamed policy s) where
  abbrev meant : Meaning
  meant = meaning_of policy dropped

  -- what a statement that passes a test declares is kept
  kept-by : (test : Form → Bool) (t : Placed) → Contains policy t → test t.form ≡ true
      → list_any (λ d. bytes_eq (declared_name types t) d.name) (flat_map (λ s. if test s.form then declared_as types s ∷ [] else []) policy) ≡ true
  kept-by test t there is =
      let found = contains-flat (λ s. if test s.form then declared_as types s ∷ [] else []) policy t (declared_as types t) there
      (subst (λ b. Contains (if b then declared_as types t ∷ [] else []) (declared_as types t)) (sym is) (contains-first (declared_as types t) [])) in
      any-contained (λ d. bytes_eq (declared_name types t) d.name) (flat_map (λ s. if test s.form then declared_as types s ∷ [] else []) policy) (declared_as types t) found
      ((bytes_eq-Decides (declared_name types t) (declared_name types t)).1 refl)

  type-kept : (t : Placed) → Contains policy t → is_type t.form ≡ true → keeps_type meant (declared_name types t) ≡ true
  type-kept = kept-by is_type

  attribute-kept : (t : Placed) → Contains policy t → is_attribute t.form ≡ true → keeps_attribute meant (declared_name types t) ≡ true
  attribute-kept = kept-by is_attribute

  module _ (s : Placed) (there : Contains policy s) where
    word-leads : (table : Table) (word : Word) → Contains (references s.form) (table, word) → is_some (leads policy table s.namespace word.text) ≡ true
    word-leads table word refers =
        let unfound = (nil-append (map (λ r. r.1) (filter (is_unfound policy s.namespace) (references s.form))) (map (λ p. p.1) (filter (is_lacking policy s.namespace) (named_permissions s.form))) (each s there).found).0 in
        is-not-false (is_some (leads policy table s.namespace word.text)) (each-fails (λ r. r.1) (is_unfound policy s.namespace) (references s.form) (table, word) unfound refers)

    word-kind : (test : Form → Bool) (word : Word) (t : Placed) → Contains (kinds_asked s.form) (test, word) → leads policy types s.namespace word.text ≡ Some t → test t.form ≡ true
    word-kind test word t asked led =
        is-not-false (test t.form)
        (ap (holds_of (λ u. not (test u.form))) (sym led) ∙ each-fails (λ r. r.1) (is_of_another_kind policy s.namespace) (kinds_asked s.form) (test, word) (each s there).kinds asked)

    word-set : (word : Word) (t : Placed) → Contains (element_words s.form) word → leads policy types s.namespace word.text ≡ Some t → is_alias t.form ≡ true → is_some (actual_statement policy t) ≡ true
    word-set word t there_too led alias =
        is-not-false (is_some (actual_statement policy t))
        (ap (λ b. b && not (is_some (actual_statement policy t))) (sym alias)
        ∙ ap (holds_of (λ u. is_alias u.form && not (is_some (actual_statement policy u)))) (sym led)
        ∙ each-fails (λ w. w) (is_unset policy s.namespace) (element_words s.form) word (ap (map (λ w. w)) (each s there).set) there_too)

  -- what gives an alias its actual type
  actual-form : (alias : Placed) (namespace : List (List ℕ)) (form : Form) → gives_actual policy alias namespace form ≡ true → (word actual : Word) × (form ≡ alias_actual word actual)
  actual-form alias namespace (alias_actual word actual) e = (word, actual, refl)
  actual-form alias namespace _ e = absurd (true≢false (sym e))

  -- the actual type of an alias that has one
  actual-kept : (t : Placed) → is_some (actual_statement policy t) ≡ true → keeps_type meant (name_or_none types (actual_of policy t)) ≡ true
  actual-kept t set = by (actual_statement policy t) set (find-there (λ s. gives_actual policy t s.namespace s.form) policy)
    where
      to : (u : Placed) → Contains policy u → (alias actual : Word) → u.form ≡ alias_actual alias actual → keeps_type meant (name_or_none types (actual_in policy u.namespace u.form)) ≡ true
      to u there alias actual form = led (leads policy types u.namespace actual.text) refl
          (word-leads u there types actual (subst (λ f. Contains (references f) (types, actual)) (sym form) (contains-other (types, alias) ((types, actual) ∷ []) (types, actual) (contains-first (types, actual) []))))
        where
          led : (o : Option Placed) → leads policy types u.namespace actual.text ≡ o → is_some o ≡ true → keeps_type meant (name_or_none types (actual_in policy u.namespace u.form)) ≡ true
          led None e some = absurd (true≢false (sym some))
          led (Some v) e some =
              subst (λ o. keeps_type meant (name_or_none types o) ≡ true) (sym (ap (actual_in policy u.namespace) form ∙ e))
              (type-kept v (declared-led policy types u.namespace actual.text v e).there
              (word-kind u there is_type actual v (subst (λ f. Contains (kinds_asked f) (is_type, actual)) (sym form) (contains-other (is_alias, alias) ((is_type, actual) ∷ []) (is_type, actual) (contains-first (is_type, actual) []))) e))

      by : (o : Option Placed) → is_some o ≡ true → IfSome o (λ u. Contains policy u × (gives_actual policy t u.namespace u.form ≡ true))
          → keeps_type meant (name_or_none types (option_and_then (λ s. actual_in policy s.namespace s.form) o)) ≡ true
      by None some found = absurd (true≢false (sym some))
      by (Some u) some found = let form = actual-form t u.namespace u.form found.1 in to u found.0 form.0 form.1 form.2

  -- what a declaration stands for
  element-kept : (t : Placed) → IsDeclared policy types t → (is_alias t.form ≡ true → is_some (actual_statement policy t) ≡ true) → keeps_element meant (element_at policy t t.form) ≡ true
  element-kept t declared set = by t.form refl declared.declares_one
    where
      by : (form : Form) → t.form ≡ form → is_some (declared_in types form) ≡ true → keeps_element meant (element_at policy t form) ≡ true
      by (type_name id) e one = type-kept t declared.there (ap is_type e)
      by (type_alias id) e one = actual-kept t (set (ap is_alias e))
      by (type_attribute id) e one = attribute-kept t declared.there (ap is_attribute e)
      by _ e one = absurd (true≢false (sym one))

  module _ (s : Placed) (there : Contains policy s) where
    -- what a word of an expression leads to
    word-kept : (word : Word) → Contains (references s.form) (types, word) → Contains (element_words s.form) word → keeps_element meant (element_of policy s.namespace word) ≡ true
    word-kept word refers there_too = by (leads policy types s.namespace word.text) refl (word-leads s there types word refers)
      where
        by : (o : Option Placed) → leads policy types s.namespace word.text ≡ o → is_some o ≡ true → keeps_element meant (element_or_none policy o) ≡ true
        by None e some = absurd (true≢false (sym some))
        by (Some t) e some = element-kept t (declared-led policy types s.namespace word.text t e) (word-set s there word t there_too e)

    -- what the first name of a set statement leads to
    attribute-of-kept : (attribute : Word) → Contains (references s.form) (types, attribute) → Contains (kinds_asked s.form) (is_attribute, attribute)
        → keeps_attribute meant (name_or_none types (leads policy types s.namespace attribute.text)) ≡ true
    attribute-of-kept attribute refers asked = by (leads policy types s.namespace attribute.text) refl (word-leads s there types attribute refers)
      where
        by : (o : Option Placed) → leads policy types s.namespace attribute.text ≡ o → is_some o ≡ true → keeps_attribute meant (name_or_none types o) ≡ true
        by None e some = absurd (true≢false (sym some))
        by (Some t) e some = attribute-kept t (declared-led policy types s.namespace attribute.text t e).there (word-kind s there is_attribute attribute t asked e)

  -- a set statement of the policy
  set-kept : (s : Placed) → Contains policy s → (form : Form) → s.form ≡ form → (x : SetStatement) → Contains (set_statement_of policy s form) x
      → (keeps_attribute meant x.attribute ≡ true) × ((element : Element) → Contains (leaves x.expr) element → keeps_element meant element ≡ true)
  set-kept s there (attribute_set attribute expr) form x c = elim (contains-cases _ [] x c) [
    | inl same ↦ subst (λ y. (keeps_attribute meant y.attribute ≡ true) × ((element : Element) → Contains (leaves y.expr) element → keeps_element meant element ≡ true)) same (of_attribute, of_leaves)
    | inr none ↦ absurd (omega (arith, none.1))
  ]
    where
      of_attribute : keeps_attribute meant (name_or_none types (leads policy types s.namespace attribute.text)) ≡ true
      of_attribute = attribute-of-kept s there attribute
          (subst (λ f. Contains (references f) (types, attribute)) (sym form) (contains-first (types, attribute) (map (λ w. (types, w)) (leaves expr))))
          (subst (λ f. Contains (kinds_asked f) (is_attribute, attribute)) (sym form) (contains-first (is_attribute, attribute) []))

      of_leaves : (element : Element) → Contains (leaves (map_leaves (element_of policy s.namespace) expr)) element → keeps_element meant element ≡ true
      of_leaves element d =
          let word = contains-mapped (element_of policy s.namespace) (leaves expr) element (subst (λ l. Contains l element) (leaves-mapped (element_of policy s.namespace) expr) d) in
          subst (λ e. keeps_element meant e ≡ true) word.2
          (word-kept s there word.0
          (subst (λ f. Contains (references f) (types, word.0)) (sym form) (contains-other (types, attribute) (map (λ w. (types, w)) (leaves expr)) (types, word.0) (contains-map (λ w. (types, w)) (leaves expr) word.0 word.1)))
          (subst (λ f. Contains (element_words f) word.0) (sym form) word.1))
  set-kept s there _ form x c = absurd (omega (arith, c.1))

  own-sets : HasOwnSets meant
  own-sets = record {
    attributes = λ x c. (let from = flat-contains (λ s. set_statement_of policy s s.form) policy x c in (set-kept from.0 from.1 from.0.form refl x from.2).0);
    mentioned = λ x element c d. (let from = flat-contains (λ s. set_statement_of policy s s.form) policy x c in (set-kept from.0 from.1 from.0.form refl x from.2).1 element d);
  }

-- The statements that a policy keeps, where it compiles.
module _ (policy : List Placed) (kept : Optionals) (apart : AreApart policy) (are : AreKept policy kept) (compiles : Compiles kept policy) where
  -- none has a word at which there is a fault of a kind
  none-faulty : (kind : PolicyFaultKind) → ((name : List ℕ) (at : Place) (word : List ℕ) → IsFaultOf kind (restricted kept policy) (record { kind = kind; module_name = name; at = at; word = word }) → ⊥)
      → (s : Placed) → Contains (restricted kept policy) s → (word : Word) → ((before : List Placed) → IsFaulty kind (restricted kept policy) before s word) → ⊥
  none-faulty kind none s there word is =
      let a = around (restricted kept policy) s there in
      none s.module_name word.at word.text
      (record { before = a.before; s = s; after = a.after; word = word; split = a.whole; is_faulty = is a.before; is_at = refl })

  pub none-circular : (s : Placed) → Contains (restricted kept policy) s → (word : Word) → IsCircular (restricted kept policy) s word → ⊥
  none-circular s there word is = none-faulty circular (λ name at text. compiles (record { kind = circular; module_name = name; at = at; word = text })) s there word (λ before. is)

  all-found : (s : Placed) → Contains (restricted kept policy) s → (optionals : List ℕ) → s.optionals ≡ optionals → missing_words (restricted kept policy) s ≡ []
  all-found s there [] outside =
      no-elements (missing_words (restricted kept policy) s) λ word c.
      none-faulty missing (λ name at text. compiles (record { kind = missing; module_name = name; at = at; word = text })) s there word
      (λ before. subst (λ o. Contains (if is_outside o then missing_words (restricted kept policy) s else []) word) (sym outside) c)
  all-found s there (at ∷ outer) inside =
      let within : list_all (kept s.module_name) s.optionals ≡ true = all-contained (λ x. is_within kept x ≡ true) (restricted kept policy) s (passed (is_within kept) policy) there in
      (kept-good policy kept apart are).found s (contains-filtered (is_within kept) policy s there)
      (subst (λ o. has_innermost kept s.module_name o ≡ true) (sym inside)
      (first_true (kept s.module_name at) (list_all (kept s.module_name) outer) (subst (λ o. list_all (kept s.module_name) o ≡ true) inside within)))

  all-named : (s : Placed) → Contains (restricted kept policy) s → IsNamed (restricted kept policy) s
  all-named s there = record {
    found = all-found s there s.optionals refl;
    kinds = no-elements (wrong_kind_words (restricted kept policy) s) λ word c.
        none-faulty wrong_kind (λ name at text. compiles (record { kind = wrong_kind; module_name = name; at = at; word = text })) s there word (λ before. c);
    set = no-elements (alias_unset_words (restricted kept policy) s) λ word c.
        none-faulty alias_unset (λ name at text. compiles (record { kind = alias_unset; module_name = name; at = at; word = text })) s there word (λ before. c);
  }

-- The set statements of what a policy means are of its attributes, and mention its types and attributes.
pub means-own : (policy : List Placed) (kept : Optionals) (meaning : Meaning) → AreApart policy → Means policy kept meaning → HasOwnSets meaning
means-own policy kept meaning apart means =
    subst HasOwnSets (sym means.is) (own-sets (restricted kept policy) (dropped_of kept policy) (all-named policy kept apart means.are_kept means.compiles))

-- a statement that declares an attribute of this name
record Declares (policy : List Placed) (name : List ℕ) : Type 0 where
  s : Placed
  there : Contains policy s
  is : is_attribute s.form ≡ true
  named_so : declared_name types s ≡ name

attribute-declared : (policy : List Placed) (dropped : List Declared) (name : List ℕ) → keeps_attribute (meaning_of policy dropped) name ≡ true → Declares policy name
attribute-declared policy dropped name e =
    let found = passes-among (λ d. bytes_eq name d.name) (attributes_of policy) e in
    let from = flat-contains (λ s. if is_attribute s.form then declared_as types s ∷ [] else []) policy found.x (subst (λ l. Contains l found.x) (sym found.split) (contains-middle found.before found.x found.after)) in
    by from.0 from.1 (is_attribute from.0.form) refl found.x from.2 found.passes
  where
    by : (s : Placed) → Contains policy s → (b : Bool) → is_attribute s.form ≡ b → (d : Declared) → Contains (if b then declared_as types s ∷ [] else []) d → bytes_eq name d.name ≡ true → Declares policy name
    by s there true is d c same = elim (contains-cases (declared_as types s) [] d c) [
      | inl here ↦ record { s = s; there = there; is = is; named_so = ap (λ x. x.name) here ∙ sym ((bytes_eq-Decides name d.name).0 same) }
      | inr none ↦ absurd (omega (arith, none.1))
    ]
    by s there false is d c same = absurd (omega (arith, c.1))

-- and no attribute depends on itself
pub means-sound : (policy : List Placed) (kept : Optionals) (meaning : Meaning) → AreApart policy → Means policy kept meaning → HasSoundSets meaning
means-sound policy kept meaning apart means = record { own = own; straight = straight }
  where
    own : HasOwnSets meaning
    own = means-own policy kept meaning apart means

    straight : (attribute : List ℕ) → DependsOn meaning.sets attribute attribute → ⊥
    straight attribute depends =
        let next = (first-step meaning.sets attribute attribute depends.0 depends.1).1 in
        let has : keeps_attribute meaning attribute ≡ true = subst (λ a. keeps_attribute meaning a ≡ true) next.of_attribute (own.attributes next.s next.is_in) in
        let declared = attribute-declared (restricted kept policy) (dropped_of kept policy) attribute (subst (λ m. keeps_attribute m attribute ≡ true) means.is has) in
        let word = attribute-word declared.s.form declared.is in
        let itself : DependsOn (sets_of (restricted kept policy)) attribute attribute = subst (λ m. DependsOn m.sets attribute attribute) means.is depends in
        none-circular policy kept apart means.are_kept means.compiles declared.s declared.there word.0
        (record { declares = word.1; depends = subst (λ a. DependsOn (sets_of (restricted kept policy)) a a) (sym declared.named_so) itself })
