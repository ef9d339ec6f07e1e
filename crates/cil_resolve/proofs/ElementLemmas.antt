-- What names of rules lead to: types, attributes, and aliases with their types.
use Rattle.std.proofs.Common.{slice_get}
use Rattle.cil_resolve.proofs.Common.{◌≡◌, ◌⊎◌, inl, inr, ◌+◌, ◌++◌, arith, ℕ, ◌<◌, suc, Bool, true, false, not, ◌&&◌, List, [], ◌∷◌, length, get_or, Contains, Option, Some, None, is_some, option_map, position, cond, refl, sym, ap, ◌∙◌, subst, true≢false, cases_order, get_or_append_left, get_or_push, find, option_and_then, unwrap_or, lt-ltb, none-some, same_Some, Word, Form, block, optional, type_name, type_alias, alias_actual, type_attribute, attribute_set, common, class, class_common, class_order, class_permission, class_permission_set, rule, Placed, Table, types, declared_in, declared_name, full_name, word_text, same_namespace, holds_of, gives_actual, actual_statement, actual_in, actual_of, is_type, is_alias, is_word, references, leads, kinds_asked, a_type, an_attribute, name_or_none, element_at, first_true, contains-first, contains-other, kind_of, IsLead, IsFirstOf, IsFaultless, numbered_id, is_numbered, full_name_or, full_name_of, IsElement, is_set, number_in, HavePlaces, Element}
use Rattle.cil_parse.specs.declared.row.StatementKind.{StatementKind}
use Rattle.cil_parse.specs.declared.row.StatementKind.TheVariants as kinds
use Rattle.cil_check.specs.Associations.{first_at, gives, HasFirsts}
use Rattle.cil_check.specs.declared.firsts.Association.TheVariants.{Actual}
use Rattle.cil_check.proofs.FirstsLemmas.{first-itself}
use Rattle.cil_bind.proofs.PositionLemmas.{position-cons}
use Rattle.cil_optionals.proofs.FoundLemmas.{found-passes}
use Rattle.cil_expression.specs.declared.expression.Element.TheVariants as elements
use Rattle.cil_resolve.proofs.FaultlessLemmas.{word-found, kind-found}
use Rattle.cil_resolve.proofs.NumberLemmas.{number-is}
use Rattle.cil_resolve.proofs.StatementLemmas.{at-place}

-- the first declaration of a name in a table declares one there
pub first-declares : (table : Table) (policy : List Placed) (i : ℕ) (s : Placed) → slice_get policy i ≡ Some s → IsFirstOf table policy i → is_some (declared_in table s.form) ≡ true
first-declares table policy i s at first =
    by (declared_in table s.form) (first_true (is_word (word_text (declared_in table s.form)) (declared_in table s.form)) (same_namespace s.namespace s.namespace) (first-itself table policy i s at first))
  where
    by : (o : Option Word) → is_word (word_text (declared_in table s.form)) o ≡ true → is_some o ≡ true
    by None e = e
    by (Some w) e = refl

-- an element by the number of its name
pub type-named : (names : List (List ℕ)) (name : List ℕ) (n : ℕ) → number_in names name ≡ Some n → IsElement names (elements.«Type» n) (a_type name)
type-named names name n is = let (low, named) = number-is names name n is in record { named = ap a_type named; below = lt-ltb n (length names) low }

pub attribute-named : (names : List (List ℕ)) (name : List ℕ) (n : ℕ) → number_in names name ≡ Some n → IsElement names (elements.Attribute n) (an_attribute name)
attribute-named names name n is = let (low, named) = number-is names name n is in record { named = ap an_attribute named; below = lt-ltb n (length names) low }

pub type-form : (form : Form) → is_type form ≡ true → (id : Word) × (form ≡ type_name id)
type-form (type_name id) e = (id, refl)
type-form _ e = absurd (true≢false (sym e))

-- the full name of what a statement declares in a table
pub full-name-in : (table : Table) (s : Placed) (id : Word) → numbered_id s.form ≡ Some id → declared_in table s.form ≡ Some id → full_name_of s ≡ declared_name table s
full-name-in table s id numbered declared = ap (full_name_or s.namespace) numbered ∙ ap (λ o. full_name s.namespace (word_text o)) (sym declared)

-- types, aliases and attributes
pub data IsTypeKind (form : Form) : Type 0 where
  is_a_type : (id : Word) → form ≡ type_name id → IsTypeKind form
  is_an_alias : (id : Word) → form ≡ type_alias id → IsTypeKind form
  is_an_attribute : (id : Word) → form ≡ type_attribute id → IsTypeKind form

pub type-kind : (form : Form) → is_some (declared_in types form) ≡ true → IsTypeKind form
type-kind (type_name id) d = is_a_type id refl
type-kind (type_alias id) d = is_an_alias id refl
type-kind (type_attribute id) d = is_an_attribute id refl
type-kind _ d = absurd (true≢false (sym d))

-- whether a kind is that of attributes, and of aliases
abbrev is_attribute_kind : StatementKind → Bool
is_attribute_kind kinds.TypeAttribute = true
is_attribute_kind _ = false

abbrev is_alias_kind : StatementKind → Bool
is_alias_kind kinds.TypeAlias = true
is_alias_kind _ = false

module _ (names : List (List ℕ)) (policy : List Placed) (places : List ℕ) (have : HavePlaces names policy places) where
  -- what stands at the place of a type
  type-here : (i : ℕ) (s : Placed) (id : Word) → slice_get policy i ≡ Some s → s.form ≡ type_name id → IsElement names (elements.«Type» (get_or places i 0)) (a_type (declared_name types s))
  type-here i s id at is =
      subst (λ n. IsElement names (elements.«Type» (get_or places i 0)) (a_type n)) (full-name-in types s id (ap numbered_id is) (ap (declared_in types) is))
      (type-named names (full_name_of s) (get_or places i 0) (have i s at (ap is_numbered is)))

  -- the element of a type, and of an attribute
  pub element-type : (i : ℕ) (s : Placed) → slice_get policy i ≡ Some s → is_some (declared_in types s.form) ≡ true
      → (kind_of s.form ≡ kinds.TypeAttribute → ⊥) → (kind_of s.form ≡ kinds.TypeAlias → ⊥) → IsElement names (elements.«Type» (get_or places i 0)) (element_at policy s s.form)
  element-type i s at declared no_attribute no_alias = by (type-kind s.form declared)
    where
      by : IsTypeKind s.form → IsElement names (elements.«Type» (get_or places i 0)) (element_at policy s s.form)
      by (is_a_type id is) = subst (IsElement names (elements.«Type» (get_or places i 0))) (ap (element_at policy s) (sym is)) (type-here i s id at is)
      by (is_an_alias id is) = absurd (no_alias (ap kind_of is))
      by (is_an_attribute id is) = absurd (no_attribute (ap kind_of is))

  pub element-attribute : (i : ℕ) (s : Placed) → slice_get policy i ≡ Some s → is_some (declared_in types s.form) ≡ true → kind_of s.form ≡ kinds.TypeAttribute
      → IsElement names (elements.Attribute (get_or places i 0)) (element_at policy s s.form)
  element-attribute i s at declared kind = by (type-kind s.form declared)
    where
      by : IsTypeKind s.form → IsElement names (elements.Attribute (get_or places i 0)) (element_at policy s s.form)
      by (is_a_type id is) = absurd (true≢false (sym (ap is_attribute_kind (sym (ap kind_of is) ∙ kind))))
      by (is_an_alias id is) = absurd (true≢false (sym (ap is_attribute_kind (sym (ap kind_of is) ∙ kind))))
      by (is_an_attribute id is) =
          subst (IsElement names (elements.Attribute (get_or places i 0))) (ap (element_at policy s) (sym is))
          (subst (λ n. IsElement names (elements.Attribute (get_or places i 0)) (an_attribute n)) (full-name-in types s id (ap numbered_id is) (ap (declared_in types) is))
          (attribute-named names (full_name_of s) (get_or places i 0) (have i s at (ap is_numbered is))))

  -- the element of an alias, by the type that it is given
  pub element-alias : (s : Placed) (found : Option ℕ) → is_some (declared_in types s.form) ≡ true → kind_of s.form ≡ kinds.TypeAlias → IsLead types policy found (actual_of policy s)
      → holds_of (λ u. is_type u.form) (actual_of policy s) ≡ true → (k : ℕ) → unwrap_or found 0 ≡ k → IsElement names (elements.«Type» (get_or places k 0)) (element_at policy s s.form)
  element-alias s found declared kind lead types_it k place = by (type-kind s.form declared)
    where
      actual : (o : Option Placed) (found : Option ℕ) → IsLead types policy found o → holds_of (λ u. is_type u.form) o ≡ true → unwrap_or found 0 ≡ k
          → IsElement names (elements.«Type» (get_or places k 0)) (a_type (name_or_none types o))
      actual None found lead e is = absurd (true≢false (sym e))
      actual (Some u) None lead e is = absurd (none-some u lead.is)
      actual (Some u) (Some n) lead e is =
          let form = type-form u.form e in
          type-here k u form.0 (ap (slice_get policy) (sym is) ∙ lead.is) form.1

      by : IsTypeKind s.form → IsElement names (elements.«Type» (get_or places k 0)) (element_at policy s s.form)
      by (is_a_type id is) = absurd (true≢false (sym (ap is_alias_kind (sym (ap kind_of is) ∙ kind))))
      by (is_an_attribute id is) = absurd (true≢false (sym (ap is_alias_kind (sym (ap kind_of is) ∙ kind))))
      by (is_an_alias id is) = subst (IsElement names (elements.«Type» (get_or places k 0))) (ap (element_at policy s) (sym is)) (actual (actual_of policy s) found lead types_it place)

pub find-place : {X : Type 0} (p q : X → Bool) → ((x : X) → p x ≡ q x) → (xs : List X) → find p xs ≡ option_and_then (slice_get xs) (position q xs)
find-place p q same [] = refl
find-place {X = X} p q same (x ∷ xs) = by (q x) (same x) (find-place p q same xs) ∙ ap (option_and_then (slice_get (x ∷ xs))) (sym (position-cons q x xs))
  where
    shifted : (o : Option ℕ) → option_and_then (slice_get xs) o ≡ option_and_then (slice_get (x ∷ xs)) (option_map suc o)
    shifted None = refl
    shifted (Some n) = refl

    by : (b : Bool) → p x ≡ b → find p xs ≡ option_and_then (slice_get xs) (position q xs)
        → find p (x ∷ xs) ≡ option_and_then (slice_get (x ∷ xs)) (cond b (Some 0) (option_map suc (position q xs)))
    by true e more = ap (λ b. cond b (Some x) (find p xs)) e
    by false e more = ap (λ b. cond b (Some x) (find p xs)) e ∙ more ∙ shifted (position q xs)

pub gives-form : (policy : List Placed) (s : Placed) (namespace : List (List ℕ)) (form : Form) → gives_actual policy s namespace form ≡ true
    → (alias : Word) × (actual : Word) × (form ≡ alias_actual alias actual)
gives-form policy s namespace (alias_actual alias actual) e = (alias, actual, refl)
gives-form policy s namespace _ e = absurd (true≢false (sym e))

-- the statement that gives an alias its type, and the type
pub record IsActual (policy : List Placed) (s : Placed) (place : ℕ) : Type 0 where
  pub t : Placed
  pub alias : Word
  pub actual : Word
  pub form : t.form ≡ alias_actual alias actual
  pub at : slice_get policy place ≡ Some t
  pub within : place < length policy
  pub statement : actual_statement policy s ≡ Some t
  pub led : is_some (actual_in policy t.namespace t.form) ≡ true
  pub type : holds_of (λ u. is_type u.form) (actual_in policy t.namespace t.form) ≡ true

holds-led : (test : Form → Bool) (o : Option Placed) → is_some o ≡ true → ((u : Placed) → o ≡ Some u → test u.form ≡ true) → holds_of (λ u. test u.form) o ≡ true
holds-led test None some each = some
holds-led test (Some u) some each = each u refl

module _ (policy : List Placed) (compiles : IsFaultless policy) where
  given : (s : Placed) (place : ℕ) (t : Placed) → slice_get policy place ≡ Some t → actual_statement policy s ≡ Some t → IsActual policy s place
  given s place t at statement =
      let here = at-place policy place t at in
      let gives_it : gives_actual policy s t.namespace t.form ≡ true =
      found-passes (λ u. gives_actual policy s u.namespace u.form) policy t statement in
      let form = gives-form policy s t.namespace t.form gives_it in
      let alias : Word = form.0 in
      let actual : Word = form.1 in
      let is : t.form ≡ alias_actual alias actual = form.2 in
      let some : is_some (leads policy types t.namespace actual.text) ≡ true =
      word-found policy compiles t here.1 types actual
      (subst (λ f. Contains (references f) (types, actual)) (sym is) (contains-other (types, alias) ((types, actual) ∷ []) (types, actual) (contains-first (types, actual) []))) in
      let type : holds_of (λ u. is_type u.form) (leads policy types t.namespace actual.text) ≡ true =
      holds-led is_type (leads policy types t.namespace actual.text) some
      (λ u led. kind-found policy compiles t here.1 is_type actual
      (subst (λ f. Contains (kinds_asked f) (is_type, actual)) (sym is) (contains-other (is_alias, alias) ((is_type, actual) ∷ []) (is_type, actual) (contains-first (is_type, actual) []))) u led) in
      record {
        t = t;
        alias = alias;
        actual = actual;
        form = is;
        at = at;
        within = here.0;
        statement = statement;
        led = ap (λ f. is_some (actual_in policy t.namespace f)) is ∙ some;
        type = ap (λ f. holds_of (λ u. is_type u.form) (actual_in policy t.namespace f)) is ∙ type;
      }

  pub actual-at : (firsts : List (ℕ × ℕ)) (i : ℕ) → HasFirsts Actual policy firsts → IsFirstOf types policy i
      → holds_of (λ s. is_some (actual_statement policy s)) (slice_get policy i) ≡ true
      → (s : Placed) × (slice_get policy i ≡ Some s) × (n : ℕ) × (first_at firsts i ≡ Some n) × IsActual policy s n
  actual-at firsts i has first set = by (slice_get policy i) refl set
    where
      place-of : (s : Placed) (o : Option ℕ) → position (gives Actual policy s) policy ≡ o → is_some (actual_statement policy s) ≡ true
          → (n : ℕ) × (position (gives Actual policy s) policy ≡ Some n) × IsActual policy s n
      place-of s o e some =
          statement-of o e (actual_statement policy s) refl some
          (find-place (λ t. gives_actual policy s t.namespace t.form) (gives Actual policy s) (λ t. refl) policy)
        where
          statement-of : (o : Option ℕ) → position (gives Actual policy s) policy ≡ o → (q : Option Placed) → actual_statement policy s ≡ q → is_some q ≡ true
              → actual_statement policy s ≡ option_and_then (slice_get policy) (position (gives Actual policy s) policy)
              → (n : ℕ) × (position (gives Actual policy s) policy ≡ Some n) × IsActual policy s n
          statement-of o e None f some same = absurd (true≢false (sym some))
          statement-of None e (Some t) f some same = absurd (none-some t (ap (option_and_then (slice_get policy)) (sym e) ∙ sym same ∙ f))
          statement-of (Some n) e (Some t) f some same = (n, e, given s n t (ap (option_and_then (slice_get policy)) (sym e) ∙ sym same ∙ f) f)

      by : (o : Option Placed) → slice_get policy i ≡ o → holds_of (λ s. is_some (actual_statement policy s)) o ≡ true
          → (s : Placed) × (slice_get policy i ≡ Some s) × (n : ℕ) × (first_at firsts i ≡ Some n) × IsActual policy s n
      by None at some = absurd (true≢false (sym some))
      by (Some s) at some =
          let found = place-of s (position (gives Actual policy s) policy) refl some in
          (s, at, found.0, has i s at first ∙ found.1, found.2)

  -- the statement that gives the alias of a place its type, by what is noted
  pub record IsActualAt (firsts : List (ℕ × ℕ)) (i : ℕ) (s : Placed) : Type 0 where
    pub n : ℕ
    pub t : Placed
    pub actual : Word
    pub noted : first_at firsts i ≡ Some n
    pub at : slice_get policy n ≡ Some t
    pub refers : slice_get (references t.form) 1 ≡ Some (types, actual)
    pub is : leads policy types t.namespace actual.text ≡ actual_of policy s
    pub type : holds_of (λ u. is_type u.form) (actual_of policy s) ≡ true

  pub actual-here : (firsts : List (ℕ × ℕ)) (i : ℕ) (s : Placed) → HasFirsts Actual policy firsts → IsFirstOf types policy i → slice_get policy i ≡ Some s → is_some (actual_statement policy s) ≡ true → IsActualAt firsts i s
  actual-here firsts i s has first at some =
      let found = actual-at firsts i has first (ap (holds_of (λ u. is_some (actual_statement policy u))) at ∙ some) in
      let a = found.4 in
      let one : found.0 ≡ s = same_Some found.0 s (sym found.1 ∙ at) in
      let is : actual_in policy a.t.namespace a.t.form ≡ actual_of policy s =
      ap (option_and_then (λ u. actual_in policy u.namespace u.form)) (sym a.statement) ∙ ap (actual_of policy) one in
      record {
        n = found.2;
        t = a.t;
        actual = a.actual;
        noted = found.3;
        at = a.at;
        refers = ap (λ f. slice_get (references f) 1) a.form;
        is = ap (actual_in policy a.t.namespace) (sym a.form) ∙ is;
        type = ap (holds_of (λ u. is_type u.form)) (sym is) ∙ a.type;
      }

-- an alias that is set is given a type
pub set-given : (policy : List Placed) (s : Placed) → is_set policy s ≡ true → is_alias s.form ≡ true → is_some (actual_statement policy s) ≡ true
set-given policy s set alias = twice-not (is_some (actual_statement policy s)) ∙ ap (λ b. not (b && not (is_some (actual_statement policy s)))) (sym alias) ∙ set
  where
    twice-not : (b : Bool) → b ≡ not (not b)
    twice-not true = refl
    twice-not false = refl

pub alias-kind : (form : Form) → kind_of form ≡ kinds.TypeAlias → is_some (declared_in types form) ≡ true → is_alias form ≡ true
alias-kind form kind declared = by (type-kind form declared)
  where
    by : IsTypeKind form → is_alias form ≡ true
    by (is_a_type id is) = absurd (true≢false (sym (ap is_alias_kind (sym (ap kind_of is) ∙ kind))))
    by (is_an_attribute id is) = absurd (true≢false (sym (ap is_alias_kind (sym (ap kind_of is) ∙ kind))))
    by (is_an_alias id is) = ap is_alias is

-- what names lead to, for the first places
abbrev pub HaveElementsBelow : List (List ℕ) → List Placed → ℕ → List Element → Type 0
HaveElementsBelow names policy i made = (k : ℕ) (s : Placed) → k < i → slice_get policy k ≡ Some s → IsFirstOf types policy k → is_set policy s ≡ true
    → IsElement names (get_or made k (elements.«Type» 0)) (element_at policy s s.form)

-- one more
pub elements-next : (names : List (List ℕ)) (policy : List Placed) (i : ℕ) (e : Element) (old : List Element) → length old ≡ i
    → ((s : Placed) → slice_get policy i ≡ Some s → IsFirstOf types policy i → is_set policy s ≡ true → IsElement names e (element_at policy s s.form))
    → HaveElementsBelow names policy i old → HaveElementsBelow names policy (i + 1) (old ++ e ∷ [])
elements-next names policy i e old long here so_far k s low at first set = by (cases_order k i)
  where
    by : (k ≡ i) ⊎ ((k < i) ⊎ (i < k)) → IsElement names (get_or (old ++ e ∷ []) k (elements.«Type» 0)) (element_at policy s s.form)
    by (inl same) =
        subst (λ x. IsElement names x (element_at policy s s.form)) (sym (ap (λ n. get_or (old ++ e ∷ []) n (elements.«Type» 0)) same ∙ get_or_push old e (elements.«Type» 0) i long))
        (here s (ap (slice_get policy) (sym same) ∙ at) (subst (IsFirstOf types policy) same first) set)
    by (inr (inl less)) =
        subst (λ x. IsElement names x (element_at policy s s.form)) (sym (get_or_append_left old (e ∷ []) (elements.«Type» 0) k (omega (arith, less, long)))) (so_far k s less at first set)
    by (inr (inr more)) = absurd (omega (arith, more, low))
