-- What the rules of a policy name is among what it declares.
use Rattle.std.specs.Prelude.{ℕ, Bool, true, ◌&&◌, List, bytes_eq}
use Rattle.std.specs.List.{list_all, list_any}
use Rattle.cil_specs.specs.Expr.{Expr, leaves}
use Rattle.cil_specs.specs.Lookup.{has_name}
use Rattle.cil_specs.specs.Meaning.{Meaning}
use Rattle.cil_specs.specs.Rule.{Element, a_type, an_attribute, ResolvedTarget, at_itself, at_element, ResolvedPermissions, of_class, of_set, Rule, Declared, ClassOf, PermissionSetStatement}

-- whether one of these has the name
abbrev pub is_declared : List Declared → List ℕ → Bool
is_declared all name = list_any (λ d. bytes_eq d.name name) all

-- whether a type is among the types, and an attribute among the attributes
abbrev pub is_element_of : List Declared → List Declared → Element → Bool
is_element_of types attributes (a_type name) = is_declared types name
is_element_of types attributes (an_attribute name) = is_declared attributes name

abbrev pub is_aim_of : List Declared → List Declared → ResolvedTarget → Bool
is_aim_of types attributes at_itself = true
is_aim_of types attributes (at_element element) = is_element_of types attributes element

-- whether a class has the name and each of the permissions
abbrev pub is_class_with : List ℕ → List (List ℕ) → ClassOf → Bool
is_class_with name permissions c = bytes_eq c.name name && list_all (has_name c.permissions) permissions

-- whether a class is declared and has the permissions that an expression names
abbrev pub is_class_and_permissions_of : List ClassOf → List ℕ → Expr (List ℕ) → Bool
is_class_and_permissions_of classes the_class permissions = list_any (is_class_with the_class (leaves permissions)) classes

-- A rule's class is declared and has the permissions that its expression names. A permission set may have no statement, so of one by its
-- name nothing is asked here.
abbrev pub are_permissions_of : List ClassOf → ResolvedPermissions → Bool
are_permissions_of classes (of_class the_class permissions) = is_class_and_permissions_of classes the_class permissions
are_permissions_of classes (of_set set) = true

-- whether a rule's source and target are declared, and its class with the permissions that it names
abbrev pub is_rule_of : List Declared → List Declared → List ClassOf → Rule → Bool
is_rule_of types attributes classes r = is_element_of types attributes r.source && (is_aim_of types attributes r.target && are_permissions_of classes r.permissions)

-- whether the class of a statement of a permission set is declared and has the permissions that it names
abbrev pub are_permission_sets_of : List ClassOf → List PermissionSetStatement → Bool
are_permission_sets_of classes sets = list_all (λ s. is_class_and_permissions_of classes s.the_class s.permissions) sets

abbrev pub are_rules_of : List Declared → List Declared → List ClassOf → List Rule → Bool
are_rules_of types attributes classes rules = list_all (is_rule_of types attributes classes) rules

-- whether the rules of a meaning, and the statements of its permission sets, name only what it declares
abbrev pub is_consistent : Meaning → Bool
is_consistent m = are_rules_of m.types m.attributes m.classes m.rules && are_permission_sets_of m.classes m.permission_sets

-- whether what is declared, and the rules, stand in modules of these names
abbrev pub are_placed_in : List (List ℕ) → List Declared → List Declared → List ClassOf → List Rule → Bool
are_placed_in modules types attributes classes rules =
    list_all (λ d. has_name modules d.module_name) types && (list_all (λ d. has_name modules d.module_name) attributes
    && (list_all (λ c. has_name modules c.module_name) classes && list_all (λ r. has_name modules r.module_name) rules))
