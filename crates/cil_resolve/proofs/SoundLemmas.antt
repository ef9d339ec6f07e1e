-- The set statements of a policy without faults are of attributes that it declares, mention what it declares, and make no circle.
use Rattle.cil_resolve.proofs.Common.{◌≡◌, ◌∙◌, inl, inr, ℕ, true, List, [], map, Contains, Option, Some, None, is_some, bytes_eq, refl, sym, ap, subst, true≢false, arith, list_any, bytes_eq-Decides, Word, WordExpr, leaves, map_leaves, Placed, Form, attribute_set, types, leads, references, declared_name, is_attribute, circular, kinds_asked, element_words, a_type, an_attribute, Declared, SetStatement, types_of, attributes_of, sets_of, name_or_none, set_statement_of, DependsOn, meaning_of, keeps_element, HasSoundSets, contains-first, contains-other, contains-cases, contains-map, contains-mapped, contains-middle, around, any-contained, first-step, passes-among, flat-contains, leaves-mapped, IsFaultless, is_declared, is_element_of}
use Rattle.cil_specs.specs.Rule.{Element, element_of}
use Rattle.cil_specs.proofs.CircularLemmas.{attribute-word}
use Rattle.cil_resolve.proofs.ConsistentLemmas.{attribute-declared, word-declared}
use Rattle.cil_resolve.proofs.FaultlessLemmas.{no-faulty, word-found, kind-found}
use Rattle.cil_resolve.proofs.LedLemmas.{leads-led}

-- the statement that declares an attribute of this full name
record IsAttributeOf (policy : List Placed) (name : List ℕ) : Type 0 where
  t : Placed
  there : Contains policy t
  is : is_attribute t.form ≡ true
  named_so : declared_name types t ≡ name

-- the statement of a set statement
record IsSetOf (policy : List Placed) (x : SetStatement) : Type 0 where
  s : Placed
  there : Contains policy s
  attribute : Word
  expr : WordExpr
  form : s.form ≡ attribute_set attribute expr
  of_attribute : name_or_none types (leads policy types s.namespace attribute.text) ≡ x.attribute
  of_expr : map_leaves (element_of policy s.namespace) expr ≡ x.expr

set-from : (policy : List Placed) (x : SetStatement) → Contains (sets_of policy) x → IsSetOf policy x
set-from policy x c = let from = flat-contains (λ s. set_statement_of policy s s.form) policy x c in by from.0 from.1 from.0.form refl from.2
  where
    by : (s : Placed) → Contains policy s → (form : Form) → s.form ≡ form → Contains (set_statement_of policy s form) x → IsSetOf policy x
    by s there (attribute_set attribute expr) form d = elim (contains-cases _ [] x d) [
      | inl same ↦ record { s = s; there = there; attribute = attribute; expr = expr; form = form; of_attribute = ap (λ y. y.attribute) same; of_expr = ap (λ y. y.expr) same }
      | inr none ↦ absurd (omega (arith, none.1))
    ]
    by s there _ form d = absurd (omega (arith, d.1))

-- what is declared is kept
declared-kept : (ds : List Declared) (name : List ℕ) → is_declared ds name ≡ true → list_any (λ d. bytes_eq name d.name) ds ≡ true
declared-kept ds name e =
    let one = passes-among (λ d. bytes_eq d.name name) ds e in
    any-contained (λ d. bytes_eq name d.name) ds one.x (subst (λ l. Contains l one.x) (sym one.split) (contains-middle one.before one.x one.after))
    ((bytes_eq-Decides name one.x.name).1 (sym ((bytes_eq-Decides one.x.name name).0 one.passes)))

element-kept : (policy : List Placed) (dropped : List Declared) (element : Element) → is_element_of (types_of policy) (attributes_of policy) element ≡ true → keeps_element (meaning_of policy dropped) element ≡ true
element-kept policy dropped (a_type name) e = declared-kept (types_of policy) name e
element-kept policy dropped (an_attribute name) e = declared-kept (attributes_of policy) name e

module _ (policy : List Placed) (faultless : IsFaultless policy) where
  set-attribute : (s : Placed) → Contains policy s → (attribute : Word) (expr : WordExpr) → s.form ≡ attribute_set attribute expr
      → IsAttributeOf policy (name_or_none types (leads policy types s.namespace attribute.text))
  set-attribute s there attribute expr form = by (leads policy types s.namespace attribute.text) refl
      (word-found policy faultless s there types attribute (subst (λ f. Contains (references f) (types, attribute)) (sym form) (contains-first (types, attribute) (map (λ w. (types, w)) (leaves expr)))))
    where
      by : (o : Option Placed) → leads policy types s.namespace attribute.text ≡ o → is_some o ≡ true → IsAttributeOf policy (name_or_none types (leads policy types s.namespace attribute.text))
      by None e some = absurd (true≢false (sym some))
      by (Some t) e some = record {
        t = t;
        there = (leads-led policy types t s.namespace attribute.text e).there;
        is = kind-found policy faultless s there is_attribute attribute (subst (λ f. Contains (kinds_asked f) (is_attribute, attribute)) (sym form) (contains-first (is_attribute, attribute) [])) t e;
        named_so = ap (name_or_none types) (sym e);
      }

  attribute-of : (x : SetStatement) → Contains (sets_of policy) x → IsAttributeOf policy x.attribute
  attribute-of x c = let f = set-from policy x c in subst (IsAttributeOf policy) f.of_attribute (set-attribute f.s f.there f.attribute f.expr f.form)

  mentioned-declared : (x : SetStatement) (element : Element) → Contains (sets_of policy) x → Contains (leaves x.expr) element → is_element_of (types_of policy) (attributes_of policy) element ≡ true
  mentioned-declared x element c d =
      let f = set-from policy x c in
      let word = contains-mapped (element_of policy f.s.namespace) (leaves f.expr) element (subst (λ l. Contains l element) (ap leaves (sym f.of_expr) ∙ leaves-mapped (element_of policy f.s.namespace) f.expr) d) in
      subst (λ e. is_element_of (types_of policy) (attributes_of policy) e ≡ true) word.2
      (word-declared policy faultless f.s f.there word.0
      (subst (λ g. Contains (references g) (types, word.0)) (sym f.form)
      (contains-other (types, f.attribute) (map (λ w. (types, w)) (leaves f.expr)) (types, word.0) (contains-map (λ w. (types, w)) (leaves f.expr) word.0 word.1)))
      (subst (λ g. Contains (element_words g) word.0) (sym f.form) word.1))

  straight : (attribute : List ℕ) → DependsOn (sets_of policy) attribute attribute → ⊥
  straight attribute depends =
      let next = (first-step (sets_of policy) attribute attribute depends.0 depends.1).1 in
      let a = subst (IsAttributeOf policy) next.of_attribute (attribute-of next.s next.is_in) in
      let word = attribute-word a.t.form a.is in
      let split = around policy a.t a.there in
      no-faulty policy faultless circular split.before a.t split.after split.whole word.0
      (record { declares = word.1; depends = subst (λ n. DependsOn (sets_of policy) n n) (sym a.named_so) depends })

  pub faultless-sound : (dropped : List Declared) → HasSoundSets (meaning_of policy dropped)
  faultless-sound dropped = record {
    own = record {
      attributes = λ x c. (let a = attribute-of x c in declared-kept (attributes_of policy) x.attribute (subst (λ n. is_declared (attributes_of policy) n ≡ true) a.named_so (attribute-declared policy a.t a.there a.is)));
      mentioned = λ x element c d. element-kept policy dropped element (mentioned-declared x element c d);
    };
    straight = straight;
  }
