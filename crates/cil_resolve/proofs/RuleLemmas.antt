-- Rules by numbers.
use Rattle.cil_resolve.proofs.Common.{◌≡◌, ℕ, Bool, true, false, ◌&&◌, ◌||◌, nat_lt, List, [], ◌∷◌, length, get_or, map, flat_map, Contains, inl, inr, arith, contains-cases, WordExpr, meaning_of, Option, Some, None, is_some, bytes_eq, refl, sym, ap, ◌∙◌, subst, true≢false, if◌then◌else◌, list_all, lt-ltb, none-some, slice_get-get_or, Word, Placed, RuleKind, anonymous, allow, auditallow, dontaudit, neverallow, Target, Form, block, optional, type_name, type_alias, alias_actual, type_attribute, attribute_set, common, class, class_common, class_order, class_permission, class_permission_set, rule, unwrap_or, list_any-append, contains-first, contains-other, contains-map, rule_kind, IsLead, IsFaultless, lead-of, bound-at, Table, commons, classes, has_name, texts, own_permissions, listed_by, leads, references, named_permissions, gives_common, common_permissions, permissions_of, both_true, rule_kind_of, is_element_below, is_target_below, is_rule_below, is_written_below, keeps_no_list, ArePermissions, AreRules, GivesNumbered, listed_names, ClassPermissions, GivePermissions, IsRuleStart, rule_with, are_permissions_below, texts_in, place_of, IsElement, resolved_target_of, at_element, itself, the_named, Element}
use Rattle.std.proofs.Common.{slice_get}
use Rattle.cil_bind.specs.Binding.{AreBound}
use Rattle.cil_resolve.proofs.FaultlessLemmas.{permission-found}
use Rattle.cil_resolve.proofs.LoweringLemmas.{found-at}
use Rattle.cil_resolve.proofs.StatementLemmas.{contained}
use Rattle.cil_specs.specs.Rule as spec
use Rattle.cil_specs.specs.Meaning.{permissions_permit}
use Rattle.cil_resolve.specs.declared.numbered.NumberedPermissions.{NumberedPermissions}
use Rattle.cil_resolve.specs.declared.numbered.NumberedRule.{NumberedRule}
use Rattle.cil_resolve.specs.declared.numbered.ResolvedPermissions.{ResolvedPermissions}
use Rattle.cil_resolve.specs.declared.numbered.ResolvedPermissions.TheVariants as permits
use Rattle.cil_resolve.specs.declared.numbered.ResolvedTarget.TheVariants as aims
use Rattle.cil_resolve.specs.declared.rules.RuleStart.{RuleStart}
use Rattle.cil_resolve.proofs.NumberLemmas.{named-in, number-is}

-- a rule, by its parts
pub rule-made : {A : Type 0} (modules names : List (List ℕ)) (policy : List Placed) (s : Placed) (r : RuleStart) (p : ResolvedPermissions A) (kind : RuleKind) (source : Word) (target : Target)
    (permissions : ClassPermissions) → IsRuleStart modules names policy s kind source target permissions r → GivePermissions names policy (spec.resolved_permissions_of policy s.namespace permissions) p
    → AreRules modules names policy (rule_with r p ∷ []) (spec.rule_of policy s (rule kind source target permissions))
rule-made {A = A} modules names policy s r p kind source target permissions start are =
    let n = length names in
    let x : NumberedRule A = rule_with r p in
    record {
      is = λ j. record { module_name = start.placed_in j; at = start.placed j; kind = start.of_kind j; source = start.from.named j; target = start.to j; permissions = are.is j } ∷ [];
      below =
          both_true (is_rule_below n x) true
          (both_true (is_element_below n r.source) (is_target_below n r.target && are_permissions_below n p) start.from.below
          (both_true (is_target_below n r.target) (are_permissions_below n p) start.to_below are.below)) refl;
      written_below = both_true (is_written_below n x) true are.written_below refl;
      no_lists = both_true (keeps_no_list x) true are.no_list refl;
      give = λ y there. elim (contains-cases x [] y there) [
        | inl same ↦ subst (GivesNumbered (meaning_of policy []) modules names) same (λ c q. ap (λ m. permissions_permit (meaning_of policy []) m c q) are.is ∙ are.gives c q)
        | inr none ↦ absurd (omega (arith, none.1))
      ];
    }

module _ (modules names : List (List ℕ)) (policy : List Placed) (s : Placed) (kind : RuleKind) (source : Word) (target : Target) (permissions : ClassPermissions) (r : RuleStart) (form : s.form ≡ rule kind source target permissions) where
  -- a rule that aims at a word
  pub start-named : (word : Word) → target ≡ the_named word → (element : Element) → get_or modules r.«module» [] ≡ s.module_name → place_of r.at ≡ s.at → rule_kind_of r.kind ≡ kind
      → IsElement names r.source (spec.element_of policy s.namespace source) → r.target ≡ aims.Element element → IsElement names element (spec.element_of policy s.namespace word) → r.reference ≡ 2
      → IsRuleStart modules names policy s kind source target permissions r
  start-named word aimed element m a k from is_target to reference = record {
    placed_in = m;
    placed = a;
    of_kind = k;
    from = from;
    to = ap (resolved_target_of names) is_target ∙ ap at_element to.named ∙ ap (spec.resolved_target_of policy s.namespace) (sym aimed);
    to_below = ap (is_target_below (length names)) is_target ∙ to.below;
    refers = ap (slice_get (references s.form)) reference ∙ ap (λ f. slice_get (references f) 2) (form ∙ ap (λ t. rule kind source t permissions) aimed);
  }

  -- one that aims at each source itself
  pub start-itself : target ≡ itself → get_or modules r.«module» [] ≡ s.module_name → place_of r.at ≡ s.at → rule_kind_of r.kind ≡ kind → IsElement names r.source (spec.element_of policy s.namespace source)
      → r.target ≡ aims.Itself → r.reference ≡ 1 → IsRuleStart modules names policy s kind source target permissions r
  start-itself aimed m a k from is_target reference = record {
    placed_in = m;
    placed = a;
    of_kind = k;
    from = from;
    to = ap (resolved_target_of names) is_target ∙ ap (spec.resolved_target_of policy s.namespace) (sym aimed);
    to_below = ap (is_target_below (length names)) is_target;
    refers = ap (slice_get (references s.form)) reference ∙ ap (λ f. slice_get (references f) 1) (form ∙ ap (λ t. rule kind source t permissions) aimed);
  }

-- permissions of a class
pub class-gives : {A : Type 0} (names : List (List ℕ)) (policy : List Placed) (the_class : List ℕ) (permissions : WordExpr) (p : NumberedPermissions A) → ArePermissions names policy the_class permissions p
    → GivePermissions names policy (spec.of_class the_class (texts_in permissions)) (permits.OfClass p)
class-gives names policy the_class permissions p are =
    let (low, named) = number-is names the_class p.class are.of_class in
    record {
      is = λ j. spec.of_class (named j) (are.spelt.named j);
      below = both_true (nat_lt p.class (length names)) (list_all (λ q. nat_lt q (length names)) p.given) (lt-ltb p.class (length names) low) are.below;
      written_below = are.spelt.below;
      no_list = are.no_list;
      gives = are.gives;
    }

-- a rule of a class, by its parts
pub class-rule-made : {A : Type 0} (modules names : List (List ℕ)) (policy : List Placed) (s : Placed) (r : RuleStart) (p : NumberedPermissions A) (x : NumberedRule A) (kind : RuleKind) (source : Word) (target : Target)
    (the_class : Word) (permissions : WordExpr) → s.form ≡ rule kind source target (anonymous the_class permissions) → IsRuleStart modules names policy s kind source target (anonymous the_class permissions) r
    → ArePermissions names policy (spec.class_name policy s.namespace the_class) permissions p → x ≡ rule_with r (permits.OfClass p) → AreRules modules names policy (x ∷ []) (spec.rule_of policy s s.form)
class-rule-made modules names policy s r p x kind source target the_class permissions form start are is =
    subst (λ y. AreRules modules names policy (y ∷ []) (spec.rule_of policy s s.form)) (sym is)
    (subst (λ f. AreRules modules names policy (rule_with r (permits.OfClass p) ∷ []) (spec.rule_of policy s f)) (sym form)
    (rule-made modules names policy s r (permits.OfClass p) kind source target (anonymous the_class permissions) start (class-gives names policy (spec.class_name policy s.namespace the_class) permissions p are)))

-- no rules
pub no-rules : {A : Type 0} (modules names : List (List ℕ)) (policy : List Placed) (rules : List (NumberedRule A)) → rules ≡ [] → AreRules modules names policy rules []
no-rules modules names policy rules none =
    subst (λ l. AreRules modules names policy l []) (sym none)
    (record { is = refl; below = refl; written_below = refl; no_lists = refl; give = λ r there. absurd (omega (arith, there.1)) })

pub kind-back : (kind : RuleKind) → rule_kind_of (rule_kind kind) ≡ kind
kind-back allow = refl
kind-back auditallow = refl
kind-back dontaudit = refl
kind-back neverallow = refl

any-flat : {X : Type 0} (f : X → List (List ℕ)) (xs : List X) (name : List ℕ) (P : Type 0) → ((x : X) → Contains xs x → has_name (f x) name ≡ true → P) → has_name (flat_map f xs) name ≡ true → P
any-flat f [] name P each has = absurd (true≢false (sym has))
any-flat f (x ∷ xs) name P each has =
    by (has_name (f x) name) refl (sym (list_any-append (bytes_eq name) (f x) (flat_map f xs)) ∙ has) (λ more. any-flat f xs name P (λ y there. each y (contains-other x xs y there)) more)
  where
    by : (b : Bool) → has_name (f x) name ≡ b → (has_name (f x) name || has_name (flat_map f xs) name) ≡ true → (has_name (flat_map f xs) name ≡ true → P) → P
    by true e any more = each x (contains-first x xs) e
    by false e any more = more (ap (λ b. b || has_name (flat_map f xs) name) (sym e) ∙ any)

module _ (policy : List Placed) (bound : List (List (Option ℕ))) (are : AreBound policy policy bound) where
  listed : (u : Placed) (n : ℕ) (name : List ℕ) → slice_get policy n ≡ Some u → has_name (texts (own_permissions u.form)) name ≡ true → has_name (listed_names policy) name ≡ true
  listed u n name at has = named-in (λ t. texts (own_permissions t.form)) policy u name (contained policy n u at) has

  listed-lead : (table : Table) (found : Option ℕ) (lead : Option Placed) (name : List ℕ) → IsLead table policy found lead → has_name (listed_by lead) name ≡ true → has_name (listed_names policy) name ≡ true
  listed-lead table found None name led has = absurd (true≢false (sym has))
  listed-lead table None (Some u) name led has = absurd (none-some u led.is)
  listed-lead table (Some n) (Some u) name led has = listed u n name led.is has

  common-listed : (v : Placed) (i : ℕ) (name : List ℕ) → slice_get policy i ≡ Some v → (form : Form) → v.form ≡ form → has_name (common_permissions policy v.namespace form) name ≡ true → has_name (listed_names policy) name ≡ true
  common-listed v i name at (class_common the_class the_common) form has =
      listed-lead commons (get_or (get_or bound i []) 1 None) (leads policy commons v.namespace the_common.text) name
      (lead-of policy v.namespace (references v.form) (get_or bound i []) 1 (commons, the_common) (bound-at policy policy bound i v are at) (ap (λ f. slice_get (references f) 1) form)) has
  common-listed v i name at (block id) form has = absurd (true≢false (sym has))
  common-listed v i name at _ form has = absurd (true≢false (sym has))

  -- the permissions of a class are permissions that statements list
  class-listed : (t : Placed) (n : ℕ) (name : List ℕ) → slice_get policy n ≡ Some t → has_name (permissions_of policy t) name ≡ true → has_name (listed_names policy) name ≡ true
  class-listed t n name at has = by (has_name (texts (own_permissions t.form)) name) refl (sym (list_any-append (bytes_eq name) (texts (own_permissions t.form)) (flat_map given policy)) ∙ has)
    where
      given : Placed → List (List ℕ)
      given v = if gives_common policy t v.namespace v.form then common_permissions policy v.namespace v.form else []

      one : (v : Placed) → Contains policy v → has_name (given v) name ≡ true → has_name (listed_names policy) name ≡ true
      one v there e = which (gives_common policy t v.namespace v.form) refl e
        where
          which : (b : Bool) → gives_common policy t v.namespace v.form ≡ b → has_name (if b then common_permissions policy v.namespace v.form else []) name ≡ true → has_name (listed_names policy) name ≡ true
          which true is h = common-listed v there.0 name (slice_get-get_or policy there.0 v there.1 ∙ ap Some there.2) v.form refl h
          which false is h = absurd (true≢false (sym h))

      by : (b : Bool) → has_name (texts (own_permissions t.form)) name ≡ b → (has_name (texts (own_permissions t.form)) name || has_name (flat_map given policy) name) ≡ true → has_name (listed_names policy) name ≡ true
      by true e any = listed t n name at e
      by false e any = any-flat given policy name (has_name (listed_names policy) name ≡ true) one (ap (λ b. b || has_name (flat_map given policy) name) (sym e) ∙ any)

  -- the permissions that a rule names
  pub rule-listed : IsFaultless policy → (s : Placed) → Contains policy s → (the_class : Word) (permissions : List Word) → named_permissions s.form ≡ map (λ w. (the_class, w)) permissions
      → (found : Option ℕ) → IsLead classes policy found (leads policy classes s.namespace the_class.text) → is_some (leads policy classes s.namespace the_class.text) ≡ true
      → list_all (has_name (listed_names policy)) (texts permissions) ≡ true
  rule-listed faultless s there the_class permissions named found lead some =
      let a = found-at classes policy found (leads policy classes s.namespace the_class.text) lead some in
      all permissions λ w contained_it. class-listed a.t (unwrap_or found 0) w.text a.at
      (permission-found policy faultless s there the_class w (subst (λ l. Contains l (the_class, w)) (sym named) (contains-map (λ v. (the_class, v)) permissions w contained_it)) a.t a.lead_is)
    where
      all : (words : List Word) → ((w : Word) → Contains words w → has_name (listed_names policy) w.text ≡ true) → list_all (has_name (listed_names policy)) (texts words) ≡ true
      all [] each = refl
      all (w ∷ words) each = both_true (has_name (listed_names policy) w.text) (list_all (has_name (listed_names policy)) (texts words)) (each w (contains-first w words)) (all words (λ v is. each v (contains-other w words v is)))
