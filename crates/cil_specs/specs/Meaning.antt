-- What a policy means: one record, from which the accesses that its rules give and the access table are said.
use Rattle.std.specs.Prelude.{◌≡◌, ℕ, Bool, ◌&&◌, ◌==◌, List, length, bytes_eq, count_by, nat_lt}
use Rattle.std.specs.List.{list_any}
use Rattle.cil_specs.specs.Expr.{Expr, named, holds_by}
use Rattle.cil_specs.specs.Joined.{Placed}
use Rattle.cil_specs.specs.Rule.{Element, ResolvedTarget, at_itself, at_element, ResolvedPermissions, of_class, of_set, Rule, Atom, kind_index, Declared, ClassOf, PermissionSetStatement, SetStatement, types_of, attributes_of, classes_of, permission_sets_of, sets_of, rules_of}
use Rattle.cil_specs.specs.Sets.{holds_with}
use Rattle.cil_specs.specs.Kept.{Optionals, AreKept, restricted, Compiles, dropped_of}

-- The types, attributes, classes, permission sets, set statements and rules of a policy, in the order of their statements, and the
-- optionals that drop; all by full names, with their modules and places.
pub record Meaning : Type 0 where
  pub types : List Declared
  pub attributes : List Declared
  pub classes : List ClassOf
  pub permission_sets : List PermissionSetStatement
  pub sets : List SetStatement
  pub rules : List Rule
  pub dropped : List Declared

-- what statements mean, where these optionals drop
abbrev pub meaning_of : List Placed → List Declared → Meaning
meaning_of statements dropped = record {
  types = types_of statements;
  attributes = attributes_of statements;
  classes = classes_of statements;
  permission_sets = permission_sets_of statements;
  sets = sets_of statements;
  rules = rules_of statements;
  dropped = dropped;
}

-- The policy keeps these optionals and compiles, and the statements all of whose optionals are kept mean this.
pub record Means (policy : List Placed) (kept : Optionals) (meaning : Meaning) : Type 0 where
  pub are_kept : AreKept policy kept
  pub compiles : Compiles kept policy
  pub is : meaning ≡ meaning_of (restricted kept policy) (dropped_of kept policy)

-- whether a policy keeps a type of this full name
abbrev pub keeps_type : Meaning → List ℕ → Bool
keeps_type meaning t = list_any (λ d. bytes_eq t d.name) meaning.types

-- Whether a type is in an expression: it is a kept one, and the expression holds it with fuel for all attributes.
abbrev pub is_in : Meaning → Expr Element → List ℕ → Bool
is_in meaning e t = keeps_type meaning t && holds_with meaning.sets (length meaning.attributes) e t

-- whether a type is in what a name of a rule leads to: it is that type, or a member of that attribute
abbrev pub holds : Meaning → Element → List ℕ → Bool
holds meaning element t = is_in meaning (named element) t

-- whether a rule's target takes in the type t where s is the source
abbrev pub aims : Meaning → ResolvedTarget → List ℕ → List ℕ → Bool
aims meaning at_itself s t = bytes_eq s t
aims meaning (at_element element) s t = holds meaning element t

-- whether a class of this full name has a permission
abbrev pub has_permission : Meaning → List ℕ → List ℕ → Bool
has_permission meaning c p = list_any (λ d. bytes_eq c d.name && list_any (bytes_eq p) d.permissions) meaning.classes

-- whether a class and an expression of permissions give a permission of a class: it is that class, and of the permissions that it has
-- the expression holds this one
abbrev pub class_permits : Meaning → List ℕ → Expr (List ℕ) → List ℕ → List ℕ → Bool
class_permits meaning the_class expr c p = bytes_eq the_class c && (has_permission meaning c p && holds_by (bytes_eq p) expr)

-- whether a rule's permissions give it: those of its class, or what one of the statements of its permission set gives
abbrev pub permissions_permit : Meaning → ResolvedPermissions → List ℕ → List ℕ → Bool
permissions_permit meaning (of_class the_class expr) c p = class_permits meaning the_class expr c p
permissions_permit meaning (of_set set) c p = list_any (λ s. bytes_eq set s.set && class_permits meaning s.the_class s.permissions c p) meaning.permission_sets

abbrev pub permits : Meaning → Rule → List ℕ → List ℕ → Bool
permits meaning r c p = permissions_permit meaning r.permissions c p

-- whether a rule covers the source s, the target t, the class c and the permission p
abbrev pub covers : Meaning → Rule → List ℕ → List ℕ → List ℕ → List ℕ → Bool
covers meaning r s t c p = holds meaning r.source s && (aims meaning r.target s t && permits meaning r c p)

-- whether a rule gives an access
abbrev pub gives : Meaning → Rule → Atom → Bool
gives meaning r a = (kind_index r.kind == kind_index a.kind) && covers meaning r a.source a.target a.the_class a.permission

-- The access table: how many of the rules give an access. Those that none gives aren't in it.
abbrev pub count_of : Meaning → Atom → ℕ
count_of meaning a = count_by (λ r. gives meaning r a) meaning.rules

abbrev pub is_in_table : Meaning → Atom → Bool
is_in_table meaning a = nat_lt 0 (count_of meaning a)
