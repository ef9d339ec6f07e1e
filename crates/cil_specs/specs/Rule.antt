-- What the statements of a policy resolve to: types, attributes, classes, set statements and rules by full names.
use Rattle.std.specs.Prelude.{◌≡◌, ℕ, Bool, true, false, List, [], ◌∷◌, flat_map, Option, Some, None, if◌then◌else◌}
use Rattle.cil_specs.specs.Place.{Place}
use Rattle.cil_specs.specs.Names.{Word}
use Rattle.cil_specs.specs.Expr.{Expr, WordExpr, map_leaves}
use Rattle.cil_specs.specs.Statements.{RuleKind, allow, auditallow, dontaudit, neverallow, Form, class, type_alias, type_attribute, attribute_set, class_permission_set, rule, ClassPermissions, anonymous, by_name, Target, itself, the_named}
use Rattle.cil_specs.specs.Joined.{Placed}
use Rattle.cil_specs.specs.Lookup.{Table, types, classes, permission_sets, leads, declared_name, permissions_of, distinct, actual_of, is_type, is_attribute}

-- what a name of a rule leads to, by its full name: a type, an alias's too, or an attribute
pub data Element : Type 0 where
  a_type : List ℕ → Element
  an_attribute : List ℕ → Element

-- a rule's target as resolved: each source itself, or an element
pub data ResolvedTarget : Type 0 where
  at_itself : ResolvedTarget
  at_element : Element → ResolvedTarget

-- a rule's permissions as resolved: an expression, as it is written, of the permissions of a class, or a permission set
pub data ResolvedPermissions : Type 0 where
  of_class : List ℕ → Expr (List ℕ) → ResolvedPermissions
  of_set : List ℕ → ResolvedPermissions

-- a rule with full names in place of its references
pub record Rule : Type 0 where
  pub module_name : List ℕ
  pub at : Place
  pub kind : RuleKind
  pub source : Element
  pub target : ResolvedTarget
  pub permissions : ResolvedPermissions

-- what a rule says, wherever it stands
pub record RuleContent : Type 0 where
  pub kind : RuleKind
  pub source : Element
  pub target : ResolvedTarget
  pub permissions : ResolvedPermissions

abbrev pub content_of : Rule → RuleContent
content_of r = record { kind = r.kind; source = r.source; target = r.target; permissions = r.permissions }

-- Two rules are the same as resolved: their modules, offsets and contents are. Line and column don't count.
abbrev pub IsSameRule : Rule → Rule → Type 0
IsSameRule r s = (r.module_name ≡ s.module_name) × (r.at.offset ≡ s.at.offset) × (content_of r ≡ content_of s)

-- a set statement with full names in place of its references: an attribute, and the expression that tells what it holds
pub record SetStatement : Type 0 where
  pub module_name : List ℕ
  pub at : Place
  pub attribute : List ℕ
  pub expr : Expr Element

-- what a set statement says, wherever it stands
pub record SetContent : Type 0 where
  pub attribute : List ℕ
  pub expr : Expr Element

abbrev pub set_content_of : SetStatement → SetContent
set_content_of s = record { attribute = s.attribute; expr = s.expr }

-- Two set statements are the same as resolved, as two rules are.
abbrev pub IsSameSet : SetStatement → SetStatement → Type 0
IsSameSet s t = (s.module_name ≡ t.module_name) × (s.at.offset ≡ t.at.offset) × (set_content_of s ≡ set_content_of t)

-- a statement that gives a permission set permissions of a class, with full names in place of its references
pub record PermissionSetStatement : Type 0 where
  pub module_name : List ℕ
  pub at : Place
  pub set : List ℕ
  pub the_class : List ℕ
  pub permissions : Expr (List ℕ)

-- one access: what the source may do to the target, or may not
pub record Atom : Type 0 where
  pub kind : RuleKind
  pub source : List ℕ
  pub target : List ℕ
  pub the_class : List ℕ
  pub permission : List ℕ

-- where a kind stands in the order of the reports
abbrev pub kind_index : RuleKind → ℕ
kind_index allow = 0
kind_index auditallow = 1
kind_index dontaudit = 2
kind_index neverallow = 3

-- a type, an attribute or an optional by its full name, and where it is declared
pub record Declared : Type 0 where
  pub module_name : List ℕ
  pub at : Place
  pub name : List ℕ

-- a class by its full name, where it is declared, and its permissions, its common's included, each once
pub record ClassOf : Type 0 where
  pub module_name : List ℕ
  pub at : Place
  pub name : List ℕ
  pub permissions : List (List ℕ)

abbrev pub declared_as : Table → Placed → Declared
declared_as table s = record { module_name = s.module_name; at = s.at; name = declared_name table s }

-- the types of a policy, in the order of their statements
abbrev pub types_of : List Placed → List Declared
types_of policy = flat_map (λ s. if is_type s.form then declared_as types s ∷ [] else []) policy

abbrev pub attributes_of : List Placed → List Declared
attributes_of policy = flat_map (λ s. if is_attribute s.form then declared_as types s ∷ [] else []) policy

abbrev pub is_class : Form → Bool
is_class (class id permissions) = true
is_class _ = false

abbrev pub class_as : List Placed → Placed → ClassOf
class_as policy s = record { module_name = s.module_name; at = s.at; name = declared_name classes s; permissions = distinct (permissions_of policy s) }

abbrev pub classes_of : List Placed → List ClassOf
classes_of policy = flat_map (λ s. if is_class s.form then class_as policy s ∷ [] else []) policy

abbrev pub name_or_none : Table → Option Placed → List ℕ
name_or_none table None = []
name_or_none table (Some s) = declared_name table s

-- the full name of the class that a word leads to
abbrev pub class_name : List Placed → List (List ℕ) → Word → List ℕ
class_name policy namespace word = name_or_none classes (leads policy classes namespace word.text)

-- the element that a declaration stands for, an alias for its actual type
abbrev pub element_at : List Placed → Placed → Form → Element
element_at policy s (type_attribute id) = an_attribute (declared_name types s)
element_at policy s (type_alias id) = a_type (name_or_none types (actual_of policy s))
element_at policy s _ = a_type (declared_name types s)

abbrev pub element_or_none : List Placed → Option Placed → Element
element_or_none policy None = a_type []
element_or_none policy (Some s) = element_at policy s s.form

-- the element that a word leads to
abbrev pub element_of : List Placed → List (List ℕ) → Word → Element
element_of policy namespace word = element_or_none policy (leads policy types namespace word.text)

abbrev pub resolved_target_of : List Placed → List (List ℕ) → Target → ResolvedTarget
resolved_target_of policy namespace itself = at_itself
resolved_target_of policy namespace (the_named word) = at_element (element_of policy namespace word)

-- the permissions of an expression by their names
abbrev pub texts_of : WordExpr → Expr (List ℕ)
texts_of permissions = map_leaves (λ w. w.text) permissions

abbrev pub resolved_permissions_of : List Placed → List (List ℕ) → ClassPermissions → ResolvedPermissions
resolved_permissions_of policy namespace (anonymous the_class permissions) = of_class (class_name policy namespace the_class) (texts_of permissions)
resolved_permissions_of policy namespace (by_name set) = of_set (name_or_none permission_sets (leads policy permission_sets namespace set.text))

-- a statement's rule, if it is one
abbrev pub rule_of : List Placed → Placed → Form → List Rule
rule_of policy s (rule kind source target permissions) = record {
  module_name = s.module_name;
  at = s.at;
  kind = kind;
  source = element_of policy s.namespace source;
  target = resolved_target_of policy s.namespace target;
  permissions = resolved_permissions_of policy s.namespace permissions;
} ∷ []
rule_of policy s _ = []

-- a statement's set statement, if it is one
abbrev pub set_statement_of : List Placed → Placed → Form → List SetStatement
set_statement_of policy s (attribute_set attribute expr) = record {
  module_name = s.module_name;
  at = s.at;
  attribute = name_or_none types (leads policy types s.namespace attribute.text);
  expr = map_leaves (element_of policy s.namespace) expr;
} ∷ []
set_statement_of policy s _ = []

-- a statement of a permission set, if it is one
abbrev pub permission_set_of : List Placed → Placed → Form → List PermissionSetStatement
permission_set_of policy s (class_permission_set set the_class permissions) = record {
  module_name = s.module_name;
  at = s.at;
  set = name_or_none permission_sets (leads policy permission_sets s.namespace set.text);
  the_class = class_name policy s.namespace the_class;
  permissions = texts_of permissions;
} ∷ []
permission_set_of policy s _ = []

-- what the statements of a policy give to permission sets
abbrev pub permission_sets_of : List Placed → List PermissionSetStatement
permission_sets_of policy = flat_map (λ s. permission_set_of policy s s.form) policy

-- the set statements of a policy
abbrev pub sets_of : List Placed → List SetStatement
sets_of policy = flat_map (λ s. set_statement_of policy s s.form) policy

-- the rules of a policy
abbrev pub rules_of : List Placed → List Rule
rules_of policy = flat_map (λ s. rule_of policy s s.form) policy
