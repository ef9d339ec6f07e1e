-- The rules of a policy without faults, and its statements of permission sets, name what it declares.
use Rattle.cil_resolve.proofs.Common.{◌≡◌, true, false, ◌&&◌, ◌||◌, List, [], ◌∷◌, ◌++◌, map, Contains, Option, Some, None, is_some, bytes_eq, refl, sym, ap, ◌∙◌, subst, true≢false, if◌then◌else◌, list_all, list_any, option_and_then, Word, Placed, RuleKind, Form, block, optional, type_name, type_alias, alias_actual, type_attribute, attribute_set, common, class, class_common, class_order, class_permission, class_permission_set, rule, Target, itself, the_named, target_words, types, classes, declared_in, declared_name, leads, references, named_permissions, permission_reference, permission_sets, permissions_with, has_name, texts, distinct, permissions_of, gives_actual, actual_statement, actual_in, actual_of, is_type, is_alias, is_attribute, element_words, kinds_asked, declared_as, class_as, is_class, types_of, attributes_of, classes_of, permission_sets_of, rules_of, rule_of, element_or_none, element_at, class_name, name_or_none, contains-first, contains-other, contains-map, contains-middle, both_true, bytes_eq-refl, IsFaultless, has-fold, WordExpr, leaves, leaves-mapped, ClassPermissions, anonymous, by_name, texts_in, is_declared, is_element_of, is_aim_of, is_class_and_permissions_of, is_class_with, is_rule_of, are_permission_sets_of, are_permissions_of, are_rules_of}
use Rattle.cil_specs.specs.Rule.{element_of, permission_set_of, resolved_permissions_of, resolved_target_of}
use Rattle.cil_resolve.proofs.ElementLemmas.{IsTypeKind, is_a_type, is_an_alias, is_an_attribute, type-kind, gives-form}
use Rattle.cil_optionals.proofs.FoundLemmas.{found-passes}
use Rattle.cil_resolve.proofs.FaultlessLemmas.{word-found, permission-found, kind-found, alias-set}
use Rattle.cil_resolve.proofs.LedLemmas.{IsLed, leads-led}
use Rattle.cil_resolve.proofs.ListLemmas.{any-of-flat, all-of-flat, find-there}

pub class-declared : (form : Form) → is_some (declared_in classes form) ≡ is_class form
class-declared (class id permissions) = refl
class-declared _ = refl

module _ (policy : List Placed) where
  -- what a statement declares is declared
  itself-declared : (s : Placed) → list_any (λ d. bytes_eq d.name (declared_name types s)) (declared_as types s ∷ []) ≡ true
  itself-declared s = ap (λ b. b || false) (bytes_eq-refl (declared_name types s))

  type-declared : (s : Placed) → Contains policy s → is_type s.form ≡ true → is_declared (types_of policy) (declared_name types s) ≡ true
  type-declared s there is =
      any-of-flat (λ d. bytes_eq d.name (declared_name types s)) (λ u. if is_type u.form then declared_as types u ∷ [] else []) policy s there
      (ap (λ b. list_any (λ d. bytes_eq d.name (declared_name types s)) (if b then declared_as types s ∷ [] else [])) is ∙ itself-declared s)

  pub attribute-declared : (s : Placed) → Contains policy s → is_attribute s.form ≡ true → is_declared (attributes_of policy) (declared_name types s) ≡ true
  attribute-declared s there is =
      any-of-flat (λ d. bytes_eq d.name (declared_name types s)) (λ u. if is_attribute u.form then declared_as types u ∷ [] else []) policy s there
      (ap (λ b. list_any (λ d. bytes_eq d.name (declared_name types s)) (if b then declared_as types s ∷ [] else [])) is ∙ itself-declared s)

  -- a class whose permissions these are
  class-has : (t : Placed) (permissions : List Word) → IsLed classes policy t → ((w : Word) → Contains permissions w → has_name (permissions_of policy t) w.text ≡ true)
      → list_any (is_class_with (declared_name classes t) (texts permissions)) (classes_of policy) ≡ true
  class-has t permissions led each =
      any-of-flat (is_class_with (declared_name classes t) (texts permissions)) (λ u. if is_class u.form then class_as policy u ∷ [] else []) policy t led.there
      (ap (λ b. list_any (is_class_with (declared_name classes t) (texts permissions)) (if b then class_as policy t ∷ [] else [])) (sym (class-declared t.form) ∙ led.declares_it)
      ∙ ap (λ b. b || false) (both_true (bytes_eq (declared_name classes t) (declared_name classes t)) (list_all (has_name (distinct (permissions_of policy t))) (texts permissions))
      (bytes_eq-refl (declared_name classes t)) (all permissions each)))
    where
      all : (words : List Word) → ((w : Word) → Contains words w → has_name (permissions_of policy t) w.text ≡ true) → list_all (has_name (distinct (permissions_of policy t))) (texts words) ≡ true
      all [] every = refl
      all (w ∷ words) every =
          both_true (has_name (distinct (permissions_of policy t)) w.text) (list_all (has_name (distinct (permissions_of policy t))) (texts words))
          (has-fold [] (permissions_of policy t) w.text ∙ every w (contains-first w words)) (all words (λ v is. every v (contains-other w words v is)))

module _ (policy : List Placed) (faultless : IsFaultless policy) where
  -- an alias that is set leads to a type
  actual-declared : (t : Placed) → is_some (actual_statement policy t) ≡ true → is_declared (types_of policy) (name_or_none types (actual_of policy t)) ≡ true
  actual-declared t set = by (actual_statement policy t) refl set
    where
      led : (u : Placed) (alias actual : Word) → Contains policy u → actual_statement policy t ≡ Some u → u.form ≡ alias_actual alias actual → (o : Option Placed) → leads policy types u.namespace actual.text ≡ o → is_some o ≡ true
          → is_declared (types_of policy) (name_or_none types (actual_of policy t)) ≡ true
      led u alias actual there given form None e some = absurd (true≢false (sym some))
      led u alias actual there given form (Some v) e some =
          let is : actual_of policy t ≡ Some v = ap (option_and_then (λ s. actual_in policy s.namespace s.form)) given ∙ ap (actual_in policy u.namespace) form ∙ e in
          let asked = subst (λ f. Contains (kinds_asked f) (is_type, actual)) (sym form) (contains-other (is_alias, alias) ((is_type, actual) ∷ []) (is_type, actual) (contains-first (is_type, actual) [])) in
          ap (λ o. is_declared (types_of policy) (name_or_none types o)) is
          ∙ type-declared policy v (leads-led policy types v u.namespace actual.text e).there (kind-found policy faultless u there is_type actual asked v e)

      by : (o : Option Placed) → actual_statement policy t ≡ o → is_some o ≡ true → is_declared (types_of policy) (name_or_none types (actual_of policy t)) ≡ true
      by None e some = absurd (true≢false (sym some))
      by (Some u) e some =
          let there = find-there (λ s. gives_actual policy t s.namespace s.form) policy u e in
          let form = gives-form policy t u.namespace u.form (found-passes (λ s. gives_actual policy t s.namespace s.form) policy u e) in
          let refers = subst (λ f. Contains (references f) (types, form.1)) (sym form.2) (contains-other (types, form.0) ((types, form.1) ∷ []) (types, form.1) (contains-first (types, form.1) [])) in
          led u form.0 form.1 there e form.2 (leads policy types u.namespace form.1.text) refl (word-found policy faultless u there types form.1 refers)

  -- what a declaration stands for
  element-declared : (t : Placed) → IsLed types policy t → (is_alias t.form ≡ true → is_some (actual_statement policy t) ≡ true) → is_element_of (types_of policy) (attributes_of policy) (element_at policy t t.form) ≡ true
  element-declared t led set = by (type-kind t.form led.declares_it)
    where
      by : IsTypeKind t.form → is_element_of (types_of policy) (attributes_of policy) (element_at policy t t.form) ≡ true
      by (is_a_type id is) = ap (λ f. is_element_of (types_of policy) (attributes_of policy) (element_at policy t f)) is ∙ type-declared policy t led.there (ap is_type is)
      by (is_an_alias id is) = ap (λ f. is_element_of (types_of policy) (attributes_of policy) (element_at policy t f)) is ∙ actual-declared t (set (ap is_alias is))
      by (is_an_attribute id is) = ap (λ f. is_element_of (types_of policy) (attributes_of policy) (element_at policy t f)) is ∙ attribute-declared policy t led.there (ap is_attribute is)

  module _ (s : Placed) (there : Contains policy s) where
    pub word-declared : (word : Word) → Contains (references s.form) (types, word) → Contains (element_words s.form) word → is_element_of (types_of policy) (attributes_of policy) (element_of policy s.namespace word) ≡ true
    word-declared word refers named = by (leads policy types s.namespace word.text) refl (word-found policy faultless s there types word refers)
      where
        by : (o : Option Placed) → leads policy types s.namespace word.text ≡ o → is_some o ≡ true → is_element_of (types_of policy) (attributes_of policy) (element_of policy s.namespace word) ≡ true
        by None e some = absurd (true≢false (sym some))
        by (Some t) e some =
            ap (λ o. is_element_of (types_of policy) (attributes_of policy) (element_or_none policy o)) e
            ∙ element-declared t (leads-led policy types t s.namespace word.text e) (alias-set policy faultless s there word named t e)

    pub class-declares-them : (the_class : Word) (permissions : List Word) → Contains (references s.form) (classes, the_class) → named_permissions s.form ≡ map (λ w. (the_class, w)) permissions
        → list_any (is_class_with (class_name policy s.namespace the_class) (texts permissions)) (classes_of policy) ≡ true
    class-declares-them the_class permissions refers named = by (leads policy classes s.namespace the_class.text) refl (word-found policy faultless s there classes the_class refers)
      where
        by : (o : Option Placed) → leads policy classes s.namespace the_class.text ≡ o → is_some o ≡ true
            → list_any (is_class_with (class_name policy s.namespace the_class) (texts permissions)) (classes_of policy) ≡ true
        by None e some = absurd (true≢false (sym some))
        by (Some t) e some =
            ap (λ o. list_any (is_class_with (name_or_none classes o) (texts permissions)) (classes_of policy)) e
            ∙ class-has policy t permissions (leads-led policy classes t s.namespace the_class.text e)
            (λ w is. permission-found policy faultless s there the_class w (subst (λ l. Contains l (the_class, w)) (sym named) (contains-map (λ v. (the_class, v)) permissions w is)) t e)

    -- so a class is with the permissions of an expression
    class-and-permissions : (the_class : Word) (permissions : WordExpr) → Contains (references s.form) (classes, the_class) → named_permissions s.form ≡ map (λ w. (the_class, w)) (leaves permissions)
        → is_class_and_permissions_of (classes_of policy) (class_name policy s.namespace the_class) (texts_in permissions) ≡ true
    class-and-permissions the_class permissions refers named =
        subst (λ l. list_any (is_class_with (class_name policy s.namespace the_class) l) (classes_of policy) ≡ true) (sym (leaves-mapped (λ w. w.text) permissions)) (class-declares-them the_class (leaves permissions) refers named)

    permissions-declared : (permissions : ClassPermissions) → Contains (references s.form) (permission_reference permissions) → named_permissions s.form ≡ permissions_with permissions
        → are_permissions_of (classes_of policy) (resolved_permissions_of policy s.namespace permissions) ≡ true
    permissions-declared (anonymous the_class permissions) refers named = class-and-permissions the_class permissions refers named
    permissions-declared (by_name set) refers named = refl

    target-declared : (kind : RuleKind) (source : Word) (target : Target) (permissions : ClassPermissions) → s.form ≡ rule kind source target permissions
        → is_aim_of (types_of policy) (attributes_of policy) (resolved_target_of policy s.namespace target) ≡ true
    target-declared kind source itself permissions form = refl
    target-declared kind source (the_named word) permissions form =
        word-declared word
        (subst (λ f. Contains (references f) (types, word)) (sym form)
        (contains-other (types, source) ((types, word) ∷ permission_reference permissions ∷ []) (types, word) (contains-first (types, word) (permission_reference permissions ∷ []))))
        (subst (λ f. Contains (element_words f) word) (sym form) (contains-other source (word ∷ []) word (contains-first word [])))

    rule-declared : (form : Form) → s.form ≡ form → list_all (is_rule_of (types_of policy) (attributes_of policy) (classes_of policy)) (rule_of policy s form) ≡ true
    rule-declared (rule kind source target permissions) form =
        let others = map (λ w. (types, w)) (target_words target) in
        let last = permission_reference permissions in
        let source_is = word-declared source
        (subst (λ f. Contains (references f) (types, source)) (sym form) (contains-first (types, source) (others ++ last ∷ [])))
        (subst (λ f. Contains (element_words f) source) (sym form) (contains-first source (target_words target))) in
        let given_is = permissions-declared permissions
        (subst (λ f. Contains (references f) last) (sym form) (contains-other (types, source) (others ++ last ∷ []) last (contains-middle others last [])))
        (ap named_permissions form) in
        let are = are_permissions_of (classes_of policy) (resolved_permissions_of policy s.namespace permissions) in
        let aims = is_aim_of (types_of policy) (attributes_of policy) (resolved_target_of policy s.namespace target) in
        ap (λ b. b && true)
        (both_true (is_element_of (types_of policy) (attributes_of policy) (element_of policy s.namespace source)) (aims && are) source_is
        (both_true aims are (target-declared kind source target permissions form) given_is))
    rule-declared _ form = refl

    set-declared : (form : Form) → s.form ≡ form → list_all (λ x. is_class_and_permissions_of (classes_of policy) x.the_class x.permissions) (permission_set_of policy s form) ≡ true
    set-declared (class_permission_set set the_class permissions) form =
        ap (λ b. b && true)
        (class-and-permissions the_class permissions
        (subst (λ f. Contains (references f) (classes, the_class)) (sym form) (contains-other (permission_sets, set) ((classes, the_class) ∷ []) (classes, the_class) (contains-first (classes, the_class) [])))
        (ap named_permissions form))
    set-declared _ form = refl

  -- each rule of the policy
  pub rules-declared : are_rules_of (types_of policy) (attributes_of policy) (classes_of policy) (rules_of policy) ≡ true
  rules-declared = all-of-flat (is_rule_of (types_of policy) (attributes_of policy) (classes_of policy)) (λ s. rule_of policy s s.form) policy (λ s there. rule-declared s there s.form refl)

  -- and each statement of a permission set
  pub sets-declared : are_permission_sets_of (classes_of policy) (permission_sets_of policy) ≡ true
  sets-declared =
      all-of-flat (λ x. is_class_and_permissions_of (classes_of policy) x.the_class x.permissions) (λ s. permission_set_of policy s s.form) policy
      (λ s there. set-declared s there s.form refl)
