-- What the numbers of a resolved policy stand for.
use Rattle.std.specs.Prelude.{◌≡◌, ℕ, Bool, true, not, ◌&&◌, List, [], map, slice_index_or, Option, Some, None, Box, bytes_eq, IsTrue}
use Rattle.std.specs.List.{list_any}
use Rattle.std.specs.Rc.{rc_value}
use Rattle.cil_specs.specs.Meaning.{Meaning}
use Rattle.cil_specs.specs.Meaning as meant
use Rattle.cil_specs.specs.Rule as spec
use Rattle.cil_specs.specs.Rule.{a_type, an_attribute, at_itself, at_element, of_class, of_set}
use Rattle.cil_text.specs.Image.{place_of, rule_kind_of}
use Rattle.cil_specs.specs.Expr.{Expr, leaves, listed, map_leaves}
use Rattle.cil_parse.specs.Forms.{is_plain}
use Rattle.cil_expression.specs.Expression.{expr_in, set_expr_in}
use Rattle.cil_expression.specs.declared.expression.Expression.{Expression}
use Rattle.cil_resolve.specs.Consistent.{are_rules_of, are_permission_sets_of, are_placed_in}
use Rattle.cil_expression.specs.declared.expression.Element.{Element}
use Rattle.cil_expression.specs.declared.expression.Element.TheVariants.{«Type», Attribute}
use Rattle.cil_resolve.specs.declared.numbered.ResolvedTarget.{ResolvedTarget}
use Rattle.cil_resolve.specs.declared.numbered.ResolvedTarget.TheVariants as aims
use Rattle.cil_resolve.specs.declared.numbered.NumberedName.{NumberedName}
use Rattle.cil_resolve.specs.declared.numbered.NumberedClass.{NumberedClass}
use Rattle.cil_resolve.specs.declared.numbered.NumberedRule.{NumberedRule}
use Rattle.cil_resolve.specs.declared.numbered.NumberedPermissions.{NumberedPermissions}
use Rattle.cil_resolve.specs.declared.numbered.NumberedPermissionSet.{NumberedPermissionSet}
use Rattle.cil_resolve.specs.declared.numbered.ResolvedPermissions.{ResolvedPermissions}
use Rattle.cil_resolve.specs.declared.numbered.ResolvedPermissions.TheVariants as permits
use Rattle.cil_resolve.specs.declared.set_permissions.ClassPermission.{ClassPermission}
use Rattle.cil_resolve.specs.declared.numbered.NumberedSet.{NumberedSet}
use Rattle.cil_resolve.specs.declared.numbered.DroppedOptional.{DroppedOptional}

abbrev pub element_of : List (List ℕ) → Element → spec.Element
element_of names («Type» i) = a_type (slice_index_or names i [])
element_of names (Attribute i) = an_attribute (slice_index_or names i [])

abbrev pub resolved_target_of : List (List ℕ) → ResolvedTarget → spec.ResolvedTarget
resolved_target_of names aims.Itself = at_itself
resolved_target_of names (aims.Element e) = at_element (element_of names e)

abbrev pub declared_of : List (List ℕ) → List (List ℕ) → NumberedName → spec.Declared
declared_of modules names d = record { module_name = slice_index_or modules d.module []; at = place_of d.at; name = slice_index_or names d.name [] }

abbrev pub class_of : {A : Type 0} → List (List ℕ) → List (List ℕ) → NumberedClass A → spec.ClassOf
class_of modules names c = record {
  module_name = slice_index_or modules c.module [];
  at = place_of c.at;
  name = slice_index_or names c.name [];
  permissions = map (λ p. slice_index_or names p []) c.permissions.items;
}

-- the expression that is kept, or else the plain list of these numbers
abbrev pub written_or : {A : Type 0} → Option (Box (Expression ℕ A) A) → List ℕ → Expr ℕ
written_or None numbers = listed numbers
written_or (Some e) numbers = expr_in e.value

-- permissions of a class as they are written
abbrev pub written_in : {A : Type 0} → NumberedPermissions A → Expr ℕ
written_in p = written_or p.written p.given

-- whether the expression that is kept, if one is, is no plain list
abbrev pub is_no_list : {A : Type 0} → Option (Box (Expression ℕ A) A) → Bool
is_no_list None = true
is_no_list (Some e) = not (is_plain (expr_in e.value))

abbrev pub is_no_list_with : {A : Type 0} → ResolvedPermissions A → Bool
is_no_list_with (permits.OfClass p) = is_no_list p.written
is_no_list_with (permits.OfSet s) = true

-- whether a rule keeps an expression only where its permissions are no plain list
abbrev pub keeps_no_list : {A : Type 0} → NumberedRule A → Bool
keeps_no_list r = is_no_list_with r.permissions

-- an expression of permissions, by the names at its numbers
abbrev pub named_permissions : List (List ℕ) → Expr ℕ → Expr (List ℕ)
named_permissions names e = map_leaves (λ p. slice_index_or names p []) e

-- a rule's permissions
abbrev pub resolved_permissions_of : {A : Type 0} → List (List ℕ) → ResolvedPermissions A → spec.ResolvedPermissions
resolved_permissions_of names (permits.OfClass p) = of_class (slice_index_or names p.class []) (named_permissions names (written_in p))
resolved_permissions_of names (permits.OfSet s) = of_set (slice_index_or names s.set [])

-- the names that permissions are written with
abbrev pub named_numbers : {A : Type 0} → ResolvedPermissions A → List ℕ
named_numbers (permits.OfClass p) = leaves (written_in p)
named_numbers (permits.OfSet s) = []

-- each permission that is given of a class, with the class
abbrev pub given_with : {A : Type 0} → NumberedPermissions A → List ClassPermission
given_with p = map (λ n. record { class = p.class; permission = n }) p.given

-- each permission that a rule's permissions give, with its class
abbrev pub given_in : {A : Type 0} → ResolvedPermissions A → List ClassPermission
given_in (permits.OfClass p) = given_with p
given_in (permits.OfSet s) = (rc_value s.given).items

-- a rule, by the names at its numbers
abbrev pub rule_of : {A : Type 0} → List (List ℕ) → List (List ℕ) → NumberedRule A → spec.Rule
rule_of modules names r = record {
  module_name = slice_index_or modules r.module [];
  at = place_of r.at;
  kind = rule_kind_of r.kind;
  source = element_of names r.source;
  target = resolved_target_of names r.target;
  permissions = resolved_permissions_of names r.permissions;
}

-- a statement of a permission set
abbrev pub permission_set_of : {A : Type 0} → List (List ℕ) → List (List ℕ) → NumberedPermissionSet A → spec.PermissionSetStatement
permission_set_of modules names s = record {
  module_name = slice_index_or modules s.module [];
  at = place_of s.at;
  set = slice_index_or names s.set [];
  the_class = slice_index_or names s.permissions.class [];
  permissions = named_permissions names (written_in s.permissions);
}

-- a set statement
abbrev pub set_of : {A : Type 0} → List (List ℕ) → List (List ℕ) → NumberedSet A → spec.SetStatement
set_of modules names s = record {
  module_name = slice_index_or modules s.module [];
  at = place_of s.at;
  attribute = slice_index_or names s.attribute [];
  expr = map_leaves (element_of names) (set_expr_in s.expression);
}

-- an optional that drops, by the name of its module
abbrev pub dropped_with : {A : Type 0} → List (List ℕ) → DroppedOptional A → spec.Declared
dropped_with modules d = record { module_name = slice_index_or modules d.module []; at = place_of d.at; name = d.name }

-- what these names, declarations, set statements and rules mean
abbrev pub meaning_by : {A : Type 0} → List (List ℕ) → List (List ℕ) → List NumberedName → List NumberedName → List (NumberedClass A)
    → List (NumberedPermissionSet A) → List (NumberedSet A) → List (NumberedRule A) → List (DroppedOptional A) → Meaning
meaning_by modules names types attributes classes permission_sets sets rules dropped = record {
  types = map (declared_of modules names) types;
  attributes = map (declared_of modules names) attributes;
  classes = map (class_of modules names) classes;
  permission_sets = map (permission_set_of modules names) permission_sets;
  sets = map (set_of modules names) sets;
  rules = map (rule_of modules names) rules;
  dropped = map (dropped_with modules) dropped;
}

-- The rules name types and attributes, as they are tagged, and classes with permissions, that are declared, and the statements of
-- permission sets name such classes with permissions; declarations and rules stand in these modules.
pub record AreConsistent {A : Type 0} (modules names : List (List ℕ)) (types attributes : List NumberedName) (classes : List (NumberedClass A)) (permission_sets : List (NumberedPermissionSet A)) (rules : List (NumberedRule A)) : Type 0 where
  pub declared : IsTrue (are_rules_of (map (declared_of modules names) types) (map (declared_of modules names) attributes) (map (class_of modules names) classes) (map (rule_of modules names) rules))
  pub sets_declared : IsTrue (are_permission_sets_of (map (class_of modules names) classes) (map (permission_set_of modules names) permission_sets))
  pub placed : IsTrue (are_placed_in modules (map (declared_of modules names) types) (map (declared_of modules names) attributes) (map (class_of modules names) classes) (map (rule_of modules names) rules))

-- whether one of some permissions of classes is this one, by the names at their numbers
abbrev pub has_named : List (List ℕ) → List ClassPermission → List ℕ → List ℕ → Bool
has_named names given c p = list_any (λ g. bytes_eq (slice_index_or names g.class []) c && bytes_eq p (slice_index_or names g.permission [])) given

-- A rule gives the permissions at its numbers, each of its class, and no others.
abbrev pub GivesNumbered : {A : Type 0} → Meaning → List (List ℕ) → List (List ℕ) → NumberedRule A → Type 0
GivesNumbered meaning modules names r = (c p : List ℕ) → meant.permits meaning (rule_of modules names r) c p ≡ has_named names (given_in r.permissions) c p
