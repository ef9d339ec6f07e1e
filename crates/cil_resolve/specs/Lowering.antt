-- What a policy without faults means, by numbers.
use Rattle.std.specs.Prelude.{◌≡◌, ℕ, Bool, false, not, ◌&&◌, nat_lt, List, [], ◌∷◌, ◌++◌, map, flat_map, length, slice_get, slice_index_or, is_some, Option, Some, None, Contains, IsTrue, if◌then◌else◌}
use Rattle.cil_specs.specs.Joined.{Placed}
use Rattle.std.specs.List.{list_all, find}
use Rattle.std.specs.Option.{option_and_then}
use Rattle.cil_specs.specs.Names.{Word}
use Rattle.cil_specs.specs.Expr.{Expr, WordExpr, leaves, map_leaves}
use Rattle.cil_specs.specs.Meaning.{class_permits, meaning_of, permissions_permit}
use Rattle.cil_specs.specs.Statements.{Form, RuleKind, Target, ClassPermissions, anonymous, by_name, class_common, class_permission_set, attribute_set, rule}
use Rattle.cil_specs.specs.Lookup.{Table, types, classes, commons, leads, named_permissions, permission_reference, references, gives_common, actual_statement, is_alias, is_type, is_attribute}
use Rattle.cil_specs.specs.Rule as spec
use Rattle.cil_specs.specs.Rule.{element_at, element_of as element_led, declared_as, class_as, is_class, set_statement_of, permission_set_of, permission_sets_of, resolved_target_of as target_led, rule_of, texts_of}
use Rattle.cil_bind.specs.Lookup.{IsFirstOf}
use Rattle.cil_bind.specs.declared.joined.Joined.{Joined}
use Rattle.cil_parse.specs.Forms.{is_plain, nodes_in, permission_nodes, permissions_in}
use Rattle.cil_parse.specs.Lexicon.{AreNumbersOf}
use Rattle.cil_parse.specs.Parsed.{names_of}
use Rattle.cil_check.specs.Bound.{IsSeen}
use Rattle.cil_check.specs.Checker.{IsNoted}
use Rattle.cil_check.specs.Ordered.{IsFaultless}
use Rattle.cil_resolve.specs.Below.{are_permissions_below, are_written_below, is_element_below, is_name_below, is_class_below, is_permission_set_below, is_set_below, is_rule_below, is_target_below, is_written_below}
use Rattle.cil_text.specs.Image.{place_of, rule_kind_of}
use Rattle.cil_resolve.specs.FullNames.{full_name_of}
use Rattle.cil_resolve.specs.Numbering.{number_in, HavePlaces, HavePermissions}
use Rattle.cil_resolve.specs.GivenSets.{GivesSets}
use Rattle.cil_resolve.specs.Numbers.{element_of, declared_of, class_of, given_in, given_with, has_named, resolved_target_of, written_in}
use Rattle.cil_resolve.specs.Numbers as numbered
use Rattle.cil_check.specs.declared.bound.Seen.{Seen}
use Rattle.cil_expression.specs.declared.expression.Element.{Element}
use Rattle.cil_expression.specs.declared.expression.Element.TheVariants.{«Type»}
use Rattle.cil_expression.specs.Expression.{set_expr_in}
use Rattle.cil_expression.specs.declared.set_expression.SetExpression.{SetExpression}
use Rattle.cil_resolve.specs.declared.numbered.NumberedName.{NumberedName}
use Rattle.cil_resolve.specs.declared.numbered.NumberedClass.{NumberedClass}
use Rattle.cil_resolve.specs.declared.numbered.NumberedSet.{NumberedSet}
use Rattle.cil_resolve.specs.declared.given_sets.GivenSets.{GivenSets}
use Rattle.cil_resolve.specs.declared.numbered.NumberedPermissions.{NumberedPermissions}
use Rattle.cil_resolve.specs.declared.numbered.NumberedPermissionSet.{NumberedPermissionSet}
use Rattle.cil_resolve.specs.declared.numbered.NumberedRule.{NumberedRule}
use Rattle.cil_resolve.specs.declared.numbered.ResolvedPermissions.{ResolvedPermissions}
use Rattle.cil_resolve.specs.declared.rules.RuleStart.{RuleStart}
use Rattle.cil_resolve.specs.declared.lowering.Lowering.{Lowering}
use Rattle.cil_resolve.specs.declared.lowering.Parts.{Parts}

-- the names of the modules of a joined policy
abbrev pub modules_of : {A : Type 0} → Joined A → List (List ℕ)
modules_of joined = map (λ m. m.name.now) joined.modules.items

-- the element stands for this one, by names
pub record IsElement (names : List (List ℕ)) (element : Element) (is : spec.Element) : Type 0 where
  pub named : element_of names element ≡ is
  pub below : IsTrue (is_element_below (length names) element)

-- whether a statement declares no alias, or one that is given an actual type
abbrev pub is_set : List Placed → Placed → Bool
is_set policy s = not (is_alias s.form && not (is_some (actual_statement policy s)))

-- For each declaration in the table of types what a name that leads there stands for, but for aliases without an actual type.
abbrev pub HaveElements : List (List ℕ) → List Placed → List Element → Type 0
HaveElements names policy elements = (i : ℕ) (s : Placed) → slice_get policy i ≡ Some s → IsFirstOf types policy i → IsTrue (is_set policy s)
    → IsElement names (slice_index_or elements i («Type» 0)) (element_at policy s s.form)

-- the types that a statement declares, and likewise the attributes, the classes, what is said of permission sets, the set statements and
-- the rules
abbrev pub type_if : Placed → List spec.Declared
type_if s = if is_type s.form then declared_as types s ∷ [] else []

abbrev pub attribute_if : Placed → List spec.Declared
attribute_if s = if is_attribute s.form then declared_as types s ∷ [] else []

abbrev pub class_if : List Placed → Placed → List spec.ClassOf
class_if policy s = if is_class s.form then class_as policy s ∷ [] else []

abbrev pub permission_set_if : List Placed → Placed → List spec.PermissionSetStatement
permission_set_if policy s = permission_set_of policy s s.form

abbrev pub set_if : List Placed → Placed → List spec.SetStatement
set_if policy s = set_statement_of policy s s.form

abbrev pub rule_if : List Placed → Placed → List spec.Rule
rule_if policy s = rule_of policy s s.form

-- The policy has no faults, and the numbers are those of its names.
pub record IsLowering {A : Type 0} (l : Lowering A) (policy : List Placed) : Type 0 where
  pub noted : IsNoted l.checker.now policy
  pub faultless : IsFaultless policy
  pub places : HavePlaces l.numbering.now.names.items policy l.numbering.now.places.items
  pub permissions : HavePermissions l.checker.now.bound.policy.now.names l.numbering.now.names.items policy l.numbering.now.permissions.items
  pub elements : HaveElements l.numbering.now.names.items policy l.elements.now
  pub places_long : length l.numbering.now.places.items ≡ length policy
  pub elements_long : length l.elements.now ≡ length policy

-- what is seen of one of its statements
pub record IsIn {A : Type 0} (l : Lowering A) (seen : Seen A) (policy : List Placed) (s : Placed) : Type 0 where
  pub lowering : IsLowering l policy
  pub there : Contains policy s
  pub seen_is : IsSeen seen policy s
  pub worded : AreNumbersOf l.checker.now.bound.policy.now.names seen.words.now (names_of seen.«module».now)

-- What is seen is a statement with a reference of this index.
pub record Refers {A : Type 0} (l : Lowering A) (seen : Seen A) (k : ℕ) : Type 0 where
  pub policy : List Placed
  pub s : Placed
  pub table : Table
  pub word : Word
  pub is : IsIn l seen policy s
  pub at : slice_get (references s.form) k ≡ Some (table, word)

-- At this place stands a statement whose form is one of these; and one that is seen.
abbrev pub StandsAt : {A : Type 0} → Lowering A → ℕ → (Form → Type 0) → Type 0
StandsAt l i Is = (policy : List Placed) × (s : Placed) × IsLowering l policy × (slice_get policy i ≡ Some s) × Is s.form

abbrev pub SeenAt : {A : Type 0} → Lowering A → Seen A → ℕ → (Form → Type 0) → Type 0
SeenAt l seen i Is = (policy : List Placed) × (s : Placed) × IsIn l seen policy s × (slice_get policy i ≡ Some s) × Is s.form

-- where the common of a statement leads
abbrev pub common_in : List Placed → List (List ℕ) → Form → Option Placed
common_in policy namespace (class_common the_class the_common) = leads policy commons namespace the_common.text
common_in policy namespace _ = None

-- the common that the first statement gives to a class that gives it one
abbrev pub common_of : List Placed → Placed → Option Placed
common_of policy s = option_and_then (λ t. common_in policy t.namespace t.form) (find (λ t. gives_common policy s t.namespace t.form) policy)

-- the type, the attribute, the class or the permission set that a statement declares, by numbers
pub record IsDeclared (modules names : List (List ℕ)) (d : NumberedName) (s : Placed) : Type 0 where
  pub named : slice_index_or modules d.«module» [] ≡ s.module_name
  pub placed : place_of d.at ≡ s.at
  pub numbered : number_in names (full_name_of s) ≡ Some d.name

-- a class
pub record IsClass {A : Type 0} (modules names : List (List ℕ)) (c : NumberedClass A) (policy : List Placed) (s : Placed) : Type 0 where
  pub is : class_of modules names c ≡ class_as policy s
  pub below : IsTrue (is_class_below (length names) c)

-- The statement names these permissions of a class, and this reference of it is the class.
pub record NamesPermissions (form : Form) (k : ℕ) (the_class : Word) (permissions : WordExpr) : Type 0 where
  pub refers : slice_get (references form) k ≡ Some (classes, the_class)
  pub named : named_permissions form ≡ map (λ w. (the_class, w)) (leaves permissions)
  pub words : permissions_in form ≡ leaves permissions
  pub nodes : nodes_in form ≡ permission_nodes permissions

-- they are no plain list
pub record WritesPermissions (form : Form) (k : ℕ) (the_class : Word) (permissions : WordExpr) : Type 0 where
  pub is : NamesPermissions form k the_class permissions
  pub no_list : is_plain permissions ≡ false

-- the statement is one of a permission set
abbrev pub IsPermissionSet : Form → Type 0
IsPermissionSet form = (set the_class : Word) × (permissions : WordExpr) × (form ≡ class_permission_set set the_class permissions)

-- the statement is a rule; and one of a class, or of a permission set
abbrev pub IsRule : Form → Type 0
IsRule form = (kind : RuleKind) × (source : Word) × (target : Target) × (permissions : ClassPermissions) × (form ≡ rule kind source target permissions)

abbrev pub IsRuleOfClass : Form → Type 0
IsRuleOfClass form = (kind : RuleKind) × (source : Word) × (target : Target) × (the_class : Word) × (permissions : WordExpr)
    × (form ≡ rule kind source target (anonymous the_class permissions))

abbrev pub IsRuleOfSet : Form → Type 0
IsRuleOfSet form = (kind : RuleKind) × (source : Word) × (target : Target) × (set : Word) × (form ≡ rule kind source target (by_name set))

-- an expression of permissions, by numbers
pub record IsSpeltBy (names : List (List ℕ)) (e : Expr ℕ) (permissions : WordExpr) : Type 0 where
  pub named : numbered.named_permissions names e ≡ texts_of permissions
  pub below : IsTrue (list_all (λ p. nat_lt p (length names)) (leaves e))

-- The permissions of a class of this full name: how they are written, and the numbers of those that they give.
pub record ArePermissions {A : Type 0} (names : List (List ℕ)) (policy : List Placed) (the_class : List ℕ) (permissions : WordExpr) (p : NumberedPermissions A) : Type 0 where
  pub of_class : number_in names the_class ≡ Some p.class
  pub spelt : IsSpeltBy names (written_in p) permissions
  pub no_list : IsTrue (numbered.is_no_list p.written)
  pub below : IsTrue (list_all (λ n. nat_lt n (length names)) p.given)
  pub gives : (c q : List ℕ) → class_permits (meaning_of policy []) the_class (texts_of permissions) c q ≡ has_named names (given_with p) c q

-- Permissions as resolved: how they are written, and what they give.
pub record GivePermissions {A : Type 0} (names : List (List ℕ)) (policy : List Placed) (are : spec.ResolvedPermissions) (p : ResolvedPermissions A) : Type 0 where
  pub is : numbered.resolved_permissions_of names p ≡ are
  pub below : IsTrue (are_permissions_below (length names) p)
  pub written_below : IsTrue (are_written_below (length names) p)
  pub no_list : IsTrue (numbered.is_no_list_with p)
  pub gives : (c q : List ℕ) → permissions_permit (meaning_of policy []) are c q ≡ has_named names (given_in p) c q

-- A statement of a permission set gives the set the permissions at its numbers, each of its class, and no others.
abbrev pub GivesSet : {A : Type 0} → List (List ℕ) → List Placed → NumberedPermissionSet A → Type 0
GivesSet names policy s = (c q : List ℕ)
    → class_permits (meaning_of policy []) (slice_index_or names s.permissions.class []) (numbered.named_permissions names (written_in s.permissions)) c q
    ≡ has_named names (given_with s.permissions) c q

-- statements of permission sets
pub record ArePermissionSets {A : Type 0} (modules names : List (List ℕ)) (policy : List Placed) (sets : List (NumberedPermissionSet A)) (are : List spec.PermissionSetStatement) : Type 0 where
  pub is : map (numbered.permission_set_of modules names) sets ≡ are
  pub below : IsTrue (list_all (is_permission_set_below (length names)) sets)
  pub give : (s : NumberedPermissionSet A) → Contains sets s → GivesSet names policy s

-- What permission sets give is that of all their statements.
pub record KnowSets {A : Type 0} (l : Lowering A) (given : GivenSets A) (policy : List Placed) : Type 0 where
  pub sets : List (NumberedPermissionSet A)
  pub are : ArePermissionSets (modules_of l.checker.now.bound.joined.now) l.numbering.now.names.items policy sets (permission_sets_of policy)
  pub give : GivesSets sets given

-- a rule but for its permissions, and the reference to their class or their permission set
pub record IsRuleStart (modules names : List (List ℕ)) (policy : List Placed) (s : Placed) (kind : RuleKind) (source : Word) (target : Target) (permissions : ClassPermissions) (r : RuleStart) : Type 0 where
  pub placed_in : slice_index_or modules r.«module» [] ≡ s.module_name
  pub placed : place_of r.at ≡ s.at
  pub of_kind : rule_kind_of r.kind ≡ kind
  pub from : IsElement names r.source (element_led policy s.namespace source)
  pub to : resolved_target_of names r.target ≡ target_led policy s.namespace target
  pub to_below : IsTrue (is_target_below (length names) r.target)
  pub refers : slice_get (references s.form) r.reference ≡ Some (permission_reference permissions)

-- the rule with its permissions
abbrev pub rule_with : {A : Type 0} → RuleStart → ResolvedPermissions A → NumberedRule A
rule_with r permissions = record { «module» = r.«module»; at = r.at; kind = r.kind; source = r.source; target = r.target; permissions = permissions }

-- rules
pub record AreRules {A : Type 0} (modules names : List (List ℕ)) (policy : List Placed) (rules : List (NumberedRule A)) (are : List spec.Rule) : Type 0 where
  pub is : map (numbered.rule_of modules names) rules ≡ are
  pub below : IsTrue (list_all (is_rule_below (length names)) rules)
  pub written_below : IsTrue (list_all (is_written_below (length names)) rules)
  pub no_lists : IsTrue (list_all numbered.keeps_no_list rules)
  pub give : (r : NumberedRule A) → Contains rules r → numbered.GivesNumbered (meaning_of policy []) modules names r

-- behind some rules stands that of one statement more
pub record AddsRule {A : Type 0} (modules names : List (List ℕ)) (policy : List Placed) (s : Placed) (before after : List (NumberedRule A)) : Type 0 where
  pub rule : NumberedRule A
  pub pushed : after ≡ before ++ rule ∷ []
  pub is : AreRules modules names policy (rule ∷ []) (rule_if policy s)

-- behind some classes stands that of one statement more
pub record AddsClass {A : Type 0} (modules names : List (List ℕ)) (policy : List Placed) (s : Placed) (before after : List (NumberedClass A)) : Type 0 where
  pub a_class : NumberedClass A
  pub pushed : after ≡ before ++ a_class ∷ []
  pub is : IsClass modules names a_class policy s

-- what names of an expression lead to
pub record AreElements (names : List (List ℕ)) (elements : List Element) (are : List spec.Element) : Type 0 where
  pub is : map (element_of names) elements ≡ are
  pub below : IsTrue (list_all (is_element_below (length names)) elements)

-- the statement is a set statement
abbrev pub IsSet : Form → Type 0
IsSet form = (attribute : Word) × (expr : WordExpr) × (form ≡ attribute_set attribute expr)

-- what is seen is a set statement
abbrev pub SeesSet : {A : Type 0} → Lowering A → Seen A → Type 0
SeesSet l seen = (policy : List Placed) × (s : Placed) × IsIn l seen policy s × IsSet s.form

-- the expression is this one, by names
pub record IsExpression {A : Type 0} (names : List (List ℕ)) (e : SetExpression A) (is : Expr spec.Element) : Type 0 where
  pub named : map_leaves (element_of names) (set_expr_in e) ≡ is
  pub below : IsTrue (list_all (is_element_below (length names)) (leaves (set_expr_in e)))

-- set statements
pub record AreSets {A : Type 0} (modules names : List (List ℕ)) (sets : List (NumberedSet A)) (are : List spec.SetStatement) : Type 0 where
  pub is : map (numbered.set_of modules names) sets ≡ are
  pub below : IsTrue (list_all (is_set_below (length names)) sets)

-- behind some set statements stands that of one statement more
pub record AddsSet {A : Type 0} (modules names : List (List ℕ)) (policy : List Placed) (s : Placed) (before after : List (NumberedSet A)) : Type 0 where
  pub set : NumberedSet A
  pub pushed : after ≡ before ++ set ∷ []
  pub is : AreSets modules names (set ∷ []) (set_if policy s)

-- behind some set statements stands that of this place
abbrev pub AddsSetAt : {A : Type 0} → Lowering A → ℕ → List (NumberedSet A) → List (NumberedSet A) → Type 0
AddsSetAt l i before after = (policy : List Placed) (s : Placed) → IsLowering l policy → slice_get policy i ≡ Some s → IsSet s.form
    → AddsSet (modules_of l.checker.now.bound.joined.now) l.numbering.now.names.items policy s before after

-- the expression is that of the set statement that is seen
abbrev pub IsSeenExpression : {A : Type 0} → Lowering A → Seen A → SetExpression A → Type 0
IsSeenExpression l seen e = (policy : List Placed) (s : Placed) (attribute : Word) (expr : WordExpr) → IsIn l seen policy s → s.form ≡ attribute_set attribute expr
    → IsExpression l.numbering.now.names.items e (map_leaves (element_led policy s.namespace) expr)

-- The types, attributes, classes, set statements and rules that some statements of a policy are, and what the policy says of permission
-- sets.
pub record ArePartsOf {A : Type 0} (modules names : List (List ℕ)) (policy statements : List Placed) (parts : Parts A) : Type 0 where
  pub types_are : map (declared_of modules names) parts.types.items ≡ flat_map type_if statements
  pub types_below : IsTrue (list_all (is_name_below (length names)) parts.types.items)
  pub attributes_are : map (declared_of modules names) parts.attributes.items ≡ flat_map attribute_if statements
  pub attributes_below : IsTrue (list_all (is_name_below (length names)) parts.attributes.items)
  pub classes_are : map (class_of modules names) parts.classes.items ≡ flat_map (class_if policy) statements
  pub classes_below : IsTrue (list_all (is_class_below (length names)) parts.classes.items)
  pub permission_sets_are : ArePermissionSets modules names policy parts.permission_sets.items (permission_sets_of policy)
  pub sets_are : AreSets modules names parts.sets.items (flat_map (set_if policy) statements)
  pub rules_are : AreRules modules names policy parts.rules.items (flat_map (rule_if policy) statements)
