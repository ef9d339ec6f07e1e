-- The types, attributes, classes, set statements and rules of a policy, statement by statement.
use Rattle.cil_resolve.proofs.Common.{◌≡◌, ℕ, Bool, true, false, ◌&&◌, nat_lt, List, [], ◌∷◌, ◌++◌, length, map, flat_map, Some, refl, sym, ap, ◌∙◌, true≢false, append-nil, if◌then◌else◌, list_all, lt-ltb, map-append, list_all-append, flat_map-append, Word, Placed, Form, block, optional, type_name, type_alias, alias_actual, type_attribute, attribute_set, common, class, class_common, class_order, class_permission, class_permission_set, rule, anonymous, by_name, types, classes, declared_in, distinct, permissions_of, declared_as, class_as, is_class, is_type, is_attribute, itself, the_named, kind_of, kind-form, both_true, is_name_below, numbered_id, full_name_of, IsDeclared, IsClass, type_if, attribute_if, class_if, set_if, rule_if, AreNumbersIn, class_of, declared_of, set_of, ArePartsOf, ArePermissionSets, permission_sets_of, is_class_below, is_set_below, AreRules, GivesNumbered, Vec, is_rule_below, is_written_below, keeps_no_list, meaning_of, Contains, Contains-push_cases, contains-first, first_true, inl, inr, subst}
use Rattle.cil_specs.specs.Rule as spec
use Rattle.cil_text.specs.declared.statement.RuleKind as code
use Rattle.cil_parse.specs.declared.row.StatementKind.{StatementKind}
use Rattle.cil_parse.specs.declared.row.StatementKind.TheVariants as kinds
use Rattle.cil_check.specs.Kinds.{is_kind}
use Rattle.cil_check.specs.declared.kinds.Kind.TheVariants.{«Type», Attribute}
use Rattle.cil_resolve.specs.declared.lowering.Parts.{Parts}
use Rattle.cil_resolve.specs.declared.numbered.NumberedName.{NumberedName}
use Rattle.cil_resolve.specs.Numbers.{rule_of}
use Rattle.cil_resolve.specs.declared.numbered.NumberedClass.{NumberedClass}
use Rattle.cil_resolve.specs.declared.numbered.NumberedRule.{NumberedRule}
use Rattle.cil_resolve.proofs.ElementLemmas.{full-name-in}
use Rattle.cil_resolve.proofs.NumberLemmas.{number-is, numbers-are, numbers-below}

pub class-form : (form : Form) → is_class form ≡ true → (id : Word) × (permissions : List Word) × (form ≡ class id permissions)
class-form (class id permissions) e = (id, permissions, refl)
class-form _ e = absurd (true≢false (sym e))

-- a type or an attribute, by its parts
pub declared-made : (modules names : List (List ℕ)) (d : NumberedName) (s : Placed) (id : Word) → IsDeclared modules names d s → numbered_id s.form ≡ Some id → declared_in types s.form ≡ Some id
    → (declared_of modules names d ≡ declared_as types s) × (is_name_below (length names) d ≡ true)
declared-made modules names d s id is numbered declared =
    let (low, named) = number-is names (full_name_of s) d.name is.numbered in
    let name = named ∙ full-name-in types s id numbered declared in
    ((λ j. record { module_name = is.named j; at = is.placed j; name = name j }), lt-ltb d.name (length names) low)

-- a class, by its parts
pub class-made : {A : Type 0} (modules names : List (List ℕ)) (c : NumberedClass A) (policy : List Placed) (s : Placed) → IsDeclared modules names (record { «module» = c.«module»; at = c.at; name = c.name }) s → is_class s.form ≡ true
    → AreNumbersIn names (distinct (permissions_of policy s)) c.permissions.items → IsClass modules names c policy s
class-made modules names c policy s is a_class numbers =
    let (id, permissions, form) = class-form s.form a_class in
    let (low, named) = number-is names (full_name_of s) c.name is.numbered in
    let name = named ∙ full-name-in classes s id (ap numbered_id form) (ap (declared_in classes) form) in
    let all = numbers-are names (distinct (permissions_of policy s)) c.permissions.items numbers in
    record {
      is = λ j. record { module_name = is.named j; at = is.placed j; name = name j; permissions = all j };
      below = both_true (nat_lt c.name (length names)) (list_all (λ n. nat_lt n (length names)) c.permissions.items) (lt-ltb c.name (length names) low) (numbers-below names (distinct (permissions_of policy s)) c.permissions.items numbers);
    }

-- a list by pieces, with one piece more
pub grow : {X Y : Type 0} (f : X → Y) (g : Placed → List Y) (old new more : List X) (statements : List Placed) (s : Placed) → map f old ≡ flat_map g statements → new ≡ old ++ more → map f more ≡ g s
    → map f new ≡ flat_map g (statements ++ s ∷ [])
grow f g old new more statements s so_far pushed one =
    ap (map f) pushed ∙ map-append f old more ∙ ap (λ l. l ++ map f more) so_far ∙ ap (λ l. flat_map g statements ++ l) (one ∙ sym (append-nil (g s))) ∙ sym (flat_map-append g statements (s ∷ []))

-- with none more
pub stay : {X Y : Type 0} (f : X → Y) (g : Placed → List Y) (old new : List X) (statements : List Placed) (s : Placed) → map f old ≡ flat_map g statements → new ≡ old → g s ≡ [] → map f new ≡ flat_map g (statements ++ s ∷ [])
stay f g old new statements s so_far same none = grow f g old new [] statements s so_far (same ∙ sym (append-nil old)) (sym none)

pub below-more : {X : Type 0} (p : X → Bool) (old new : List X) (x : X) → list_all p old ≡ true → new ≡ old ++ x ∷ [] → p x ≡ true → list_all p new ≡ true
below-more p old new x all pushed one = ap (list_all p) pushed ∙ list_all-append p old (x ∷ []) ∙ both_true (list_all p old) (p x && true) all (both_true (p x) true one refl)

abbrev pub is_class_kind : StatementKind → Bool
is_class_kind kinds.Class = true
is_class_kind _ = false

abbrev pub is_rule_kind : StatementKind → Bool
is_rule_kind (kinds.Rule kind) = true
is_rule_kind (kinds.RuleToSelf kind) = true
is_rule_kind (kinds.RuleOfSet kind) = true
is_rule_kind (kinds.RuleToSelfOfSet kind) = true
is_rule_kind _ = false

class-kind : (form : Form) → is_class form ≡ is_class_kind (kind_of form)
class-kind (rule kind source itself (anonymous the_class permissions)) = refl
class-kind (rule kind source (the_named word) (anonymous the_class permissions)) = refl
class-kind _ = refl

no-rule : (policy : List Placed) (s : Placed) (form : Form) → is_rule_kind (kind_of form) ≡ false → spec.rule_of policy s form ≡ []
no-rule policy s (rule kind source itself (anonymous the_class permissions)) e = absurd (true≢false e)
no-rule policy s (rule kind source itself (by_name set)) e = absurd (true≢false e)
no-rule policy s (rule kind source (the_named word) (anonymous the_class permissions)) e = absurd (true≢false e)
no-rule policy s (rule kind source (the_named word) (by_name set)) e = absurd (true≢false e)
no-rule policy s _ e = refl

abbrev pub is_set_kind : StatementKind → Bool
is_set_kind kinds.TypeAttributeSet = true
is_set_kind _ = false

no-set : (policy : List Placed) (s : Placed) (form : Form) → is_set_kind (kind_of form) ≡ false → spec.set_statement_of policy s form ≡ []
no-set policy s (attribute_set attribute expr) e = absurd (true≢false e)
no-set policy s _ e = refl

-- what a statement of a kind is
pub record IsOfKind (policy : List Placed) (s : Placed) (kind : StatementKind) : Type 0 where
  pub type : is_type s.form ≡ is_kind «Type» kind
  pub attribute : is_attribute s.form ≡ is_kind Attribute kind
  pub a_class : is_class s.form ≡ is_class_kind kind
  pub no_set : is_set_kind kind ≡ false → set_if policy s ≡ []
  pub no_rule : is_rule_kind kind ≡ false → rule_if policy s ≡ []

pub of-kind : (policy : List Placed) (s : Placed) (kind : StatementKind) → kind_of s.form ≡ kind → IsOfKind policy s kind
of-kind policy s kind is = record {
  type = sym (kind-form «Type» s.form) ∙ ap (is_kind «Type») is;
  attribute = sym (kind-form Attribute s.form) ∙ ap (is_kind Attribute) is;
  a_class = class-kind s.form ∙ ap is_class_kind is;
  no_set = λ none. no-set policy s s.form (ap is_set_kind is ∙ none);
  no_rule = λ none. no-rule policy s s.form (ap is_rule_kind is ∙ none);
}

pub no-type-kind : (kind : StatementKind) → (kind ≡ kinds.TypeName → ⊥) → is_kind «Type» kind ≡ false
no-type-kind kinds.TypeName never = absurd (never refl)
no-type-kind _ never = refl

pub no-attribute-kind : (kind : StatementKind) → (kind ≡ kinds.TypeAttribute → ⊥) → is_kind Attribute kind ≡ false
no-attribute-kind kinds.TypeAttribute never = absurd (never refl)
no-attribute-kind _ never = refl

pub no-class-kind : (kind : StatementKind) → (kind ≡ kinds.Class → ⊥) → is_class_kind kind ≡ false
no-class-kind kinds.Class never = absurd (never refl)
no-class-kind _ never = refl

pub no-set-kind : (kind : StatementKind) → (kind ≡ kinds.TypeAttributeSet → ⊥) → is_set_kind kind ≡ false
no-set-kind kinds.TypeAttributeSet never = absurd (never refl)
no-set-kind _ never = refl

pub no-rule-kind : (kind : StatementKind) → ((k : code.RuleKind) → kind ≡ kinds.Rule k → ⊥) → ((k : code.RuleKind) → kind ≡ kinds.RuleToSelf k → ⊥) → ((k : code.RuleKind) → kind ≡ kinds.RuleOfSet k → ⊥)
    → ((k : code.RuleKind) → kind ≡ kinds.RuleToSelfOfSet k → ⊥) → is_rule_kind kind ≡ false
no-rule-kind (kinds.Rule k) word self set both = absurd (word k refl)
no-rule-kind (kinds.RuleToSelf k) word self set both = absurd (self k refl)
no-rule-kind (kinds.RuleOfSet k) word self set both = absurd (set k refl)
no-rule-kind (kinds.RuleToSelfOfSet k) word self set both = absurd (both k refl)
no-rule-kind _ word self set both = refl

-- what a statement adds, if anything
pub type-added : {is : Bool} (s : Placed) → is_type s.form ≡ is → type_if s ≡ (if is then declared_as types s ∷ [] else [])
type-added s e = ap (λ b. if b then declared_as types s ∷ [] else []) e

pub attribute-added : {is : Bool} (s : Placed) → is_attribute s.form ≡ is → attribute_if s ≡ (if is then declared_as types s ∷ [] else [])
attribute-added s e = ap (λ b. if b then declared_as types s ∷ [] else []) e

pub class-added : {is : Bool} (policy : List Placed) (s : Placed) → is_class s.form ≡ is → class_if policy s ≡ (if is then class_as policy s ∷ [] else [])
class-added policy s e = ap (λ b. if b then class_as policy s ∷ [] else []) e

-- the rules of some statements, with none more
pub rules-stay : {A : Type 0} (modules names : List (List ℕ)) (policy : List Placed) (rules : List (NumberedRule A)) (statements : List Placed) (s : Placed) → AreRules modules names policy rules (flat_map (rule_if policy) statements)
    → rule_if policy s ≡ [] → AreRules modules names policy rules (flat_map (rule_if policy) (statements ++ s ∷ []))
rules-stay modules names policy rules statements s so_far none = record {
  is = stay (rule_of modules names) (rule_if policy) rules rules statements s so_far.is refl none;
  below = so_far.below;
  written_below = so_far.written_below;
  no_lists = so_far.no_lists;
  give = so_far.give;
}

-- with one more
pub rules-grow : {A : Type 0} (modules names : List (List ℕ)) (policy : List Placed) (old new : List (NumberedRule A)) (r : NumberedRule A) (statements : List Placed) (s : Placed)
    → AreRules modules names policy old (flat_map (rule_if policy) statements) → new ≡ old ++ r ∷ [] → AreRules modules names policy (r ∷ []) (rule_if policy s)
    → AreRules modules names policy new (flat_map (rule_if policy) (statements ++ s ∷ []))
rules-grow modules names policy old new r statements s so_far pushed one = record {
  is = grow (rule_of modules names) (rule_if policy) old new (r ∷ []) statements s so_far.is pushed one.is;
  below = below-more (is_rule_below (length names)) old new r so_far.below pushed (first_true (is_rule_below (length names) r) true one.below);
  written_below = below-more (is_written_below (length names)) old new r so_far.written_below pushed (first_true (is_written_below (length names) r) true one.written_below);
  no_lists = below-more keeps_no_list old new r so_far.no_lists pushed (first_true (keeps_no_list r) true one.no_lists);
  give = λ x c. elim (Contains-push_cases old r x (subst (λ l. Contains l x) pushed c)) [
    | inl before ↦ so_far.give x before
    | inr same ↦ subst (GivesNumbered (meaning_of policy []) modules names) same (one.give r (contains-first r []))
  ];
}

-- what a statement of a rule's kind is not
rule-alone : (kind : StatementKind) → is_rule_kind kind ≡ true → (is_kind «Type» kind ≡ false) × (is_kind Attribute kind ≡ false) × (is_class_kind kind ≡ false) × (is_set_kind kind ≡ false)
rule-alone (kinds.Rule kind) e = (refl, refl, refl, refl)
rule-alone (kinds.RuleToSelf kind) e = (refl, refl, refl, refl)
rule-alone (kinds.RuleOfSet kind) e = (refl, refl, refl, refl)
rule-alone (kinds.RuleToSelfOfSet kind) e = (refl, refl, refl, refl)
rule-alone _ e = absurd (true≢false (sym e))

-- what is added to a list of parts
pub record Adds {X Y : Type 0} (is : X → Y) (fits : X → Bool) (old new : List X) (what : List Y) : Type 0 where
  pub added : List X
  pub pushed : new ≡ old ++ added
  pub are : map is added ≡ what
  pub fit : list_all fits added ≡ true

pub adds-none : {X Y : Type 0} {is : X → Y} {fits : X → Bool} {old : List X} {what : List Y} → what ≡ [] → Adds is fits old old what
adds-none {old = old} none = record { added = []; pushed = sym (append-nil old); are = sym none; fit = refl }

pub adds-one : {X Y : Type 0} {is : X → Y} {fits : X → Bool} {old new : List X} {what : List Y} (x : X) → new ≡ old ++ x ∷ [] → what ≡ is x ∷ [] → fits x ≡ true → Adds is fits old new what
adds-one {fits = fits} x pushed one fit = record { added = x ∷ []; pushed = pushed; are = sym one; fit = both_true (fits x) true fit refl }

module _ {A : Type 0} (modules names : List (List ℕ)) (policy statements : List Placed) (s : Placed) (parts : Parts A) where
  -- the parts with what one statement more adds to each
  pub parts-more : (new : Parts A) → ArePartsOf modules names policy statements parts → new.permission_sets.items ≡ parts.permission_sets.items
      → Adds (declared_of modules names) (is_name_below (length names)) parts.types.items new.types.items (type_if s)
      → Adds (declared_of modules names) (is_name_below (length names)) parts.attributes.items new.attributes.items (attribute_if s)
      → Adds (class_of modules names) (is_class_below (length names)) parts.classes.items new.classes.items (class_if policy s)
      → Adds (set_of modules names) (is_set_below (length names)) parts.sets.items new.sets.items (set_if policy s)
      → AreRules modules names policy new.rules.items (flat_map (rule_if policy) (statements ++ s ∷ []))
      → ArePartsOf modules names policy (statements ++ s ∷ []) new
  parts-more new so_far same more_types more_attributes more_classes more_sets rules = record {
    types_are = all type_if so_far.types_are more_types;
    types_below = fitting so_far.types_below more_types;
    attributes_are = all attribute_if so_far.attributes_are more_attributes;
    attributes_below = fitting so_far.attributes_below more_attributes;
    classes_are = all (class_if policy) so_far.classes_are more_classes;
    classes_below = fitting so_far.classes_below more_classes;
    permission_sets_are = subst (λ l. ArePermissionSets modules names policy l (permission_sets_of policy)) (sym same) so_far.permission_sets_are;
    sets_are = record { is = all (set_if policy) so_far.sets_are.is more_sets; below = fitting so_far.sets_are.below more_sets };
    rules_are = rules;
  }
    where
      all : {X Y : Type 0} {is : X → Y} {fits : X → Bool} {old new : List X} (of : Placed → List Y) → map is old ≡ flat_map of statements → Adds is fits old new (of s) → map is new ≡ flat_map of (statements ++ s ∷ [])
      all {is = is} {old = old} {new = new} of before more = grow is of old new more.added statements s before more.pushed more.are

      fitting : {X Y : Type 0} {is : X → Y} {fits : X → Bool} {old new : List X} {what : List Y} → list_all fits old ≡ true → Adds is fits old new what → list_all fits new ≡ true
      fitting {fits = fits} {old = old} before more = ap (list_all fits) more.pushed ∙ list_all-append fits old more.added ∙ both_true (list_all fits old) (list_all fits more.added) before more.fit

  -- with other rules
  with-rules : (kind : StatementKind) (rules : Vec (NumberedRule A) A) → kind_of s.form ≡ kind → is_kind «Type» kind ≡ false → is_kind Attribute kind ≡ false → is_class_kind kind ≡ false → is_set_kind kind ≡ false
      → ArePartsOf modules names policy statements parts → AreRules modules names policy rules.items (flat_map (rule_if policy) (statements ++ s ∷ []))
      → ArePartsOf modules names policy (statements ++ s ∷ []) (record parts { rules = rules })
  with-rules kind rules is type attribute a_class a_set so_far are =
      let of = of-kind policy s kind is in
      parts-more (record parts { rules = rules }) so_far refl (adds-none (type-added s (of.type ∙ type))) (adds-none (attribute-added s (of.attribute ∙ attribute)))
      (adds-none (class-added policy s (of.a_class ∙ a_class))) (adds-none (of.no_set a_set)) are

  -- with one rule more
  pub with-rule : (rules : Vec (NumberedRule A) A) (r : NumberedRule A) → is_rule_kind (kind_of s.form) ≡ true → ArePartsOf modules names policy statements parts → rules.items ≡ parts.rules.items ++ r ∷ []
      → AreRules modules names policy (r ∷ []) (rule_if policy s) → ArePartsOf modules names policy (statements ++ s ∷ []) (record parts { rules = rules })
  with-rule rules r is so_far pushed one =
      let (type, attribute, a_class, a_set) = rule-alone (kind_of s.form) is in
      with-rules (kind_of s.form) rules refl type attribute a_class a_set so_far (rules-grow modules names policy parts.rules.items rules.items r statements s so_far.rules_are pushed one)

  -- with none more
  pub with-none : (kind : StatementKind) → kind_of s.form ≡ kind → is_kind «Type» kind ≡ false → is_kind Attribute kind ≡ false → is_class_kind kind ≡ false → is_set_kind kind ≡ false → is_rule_kind kind ≡ false
      → ArePartsOf modules names policy statements parts → ArePartsOf modules names policy (statements ++ s ∷ []) parts
  with-none kind is type attribute a_class a_set a_rule so_far =
      with-rules kind parts.rules is type attribute a_class a_set so_far (rules-stay modules names policy parts.rules.items statements s so_far.rules_are ((of-kind policy s kind is).no_rule a_rule))
