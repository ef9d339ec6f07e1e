-- What is read of a resolved policy.
use Rattle.std.specs.Prelude.{ℕ, List, [], length}
use Rattle.cil_specs.specs.Place.{Place}
use Rattle.cil_specs.specs.Statements.{RuleKind}
use Rattle.cil_specs.specs.Expr.{leaves}
use Rattle.cil_specs.specs.Rule.{Element, a_type, an_attribute, ResolvedTarget, at_itself, at_element, ResolvedPermissions, of_class, of_set, Declared, ClassOf, SetStatement, PermissionSetStatement, Rule}
use Rattle.cil_text.specs.Image.{place_of, rule_kind_of}
use Rattle.cil_resolve.specs.declared.views.NameView.{NameView}
use Rattle.cil_resolve.specs.declared.views.ClassView.{ClassView}
use Rattle.cil_resolve.specs.declared.views.ElementView.{ElementView}
use Rattle.cil_resolve.specs.declared.views.ElementView.TheVariants.{«Type», Attribute}
use Rattle.cil_resolve.specs.declared.views.TargetView.{TargetView}
use Rattle.cil_resolve.specs.declared.views.TargetView.TheVariants as aims
use Rattle.cil_resolve.specs.declared.views.PermissionsView.{PermissionsView}
use Rattle.cil_resolve.specs.declared.views.PermissionsView.TheVariants as permits
use Rattle.cil_resolve.specs.declared.views.PermissionSetView.{PermissionSetView}
use Rattle.cil_resolve.specs.declared.views.RuleView.{RuleView}
use Rattle.cil_resolve.specs.declared.views.SetView.{SetView}

abbrev pub declared_seen : NameView → Declared
declared_seen v = record { module_name = v.«module».now; at = place_of v.at; name = v.name.now }

-- a class but for its permissions, which are counted
pub record ClassHead : Type 0 where
  pub module_name : List ℕ
  pub at : Place
  pub name : List ℕ
  pub permissions : ℕ

abbrev pub class_head : ClassOf → ClassHead
class_head c = record { module_name = c.module_name; at = c.at; name = c.name; permissions = length c.permissions }

abbrev pub class_seen : ClassView → ClassHead
class_seen v = record { module_name = v.«module».now; at = place_of v.at; name = v.name.now; permissions = v.permissions }

abbrev pub element_seen : ElementView → Element
element_seen («Type» name) = a_type name.now
element_seen (Attribute name) = an_attribute name.now

abbrev pub resolved_target_seen : TargetView → ResolvedTarget
resolved_target_seen aims.Itself = at_itself
resolved_target_seen (aims.Element e) = at_element (element_seen e)

-- a set statement but for its expression, of which the names are counted
pub record SetHead : Type 0 where
  pub module_name : List ℕ
  pub at : Place
  pub attribute : List ℕ
  pub names : ℕ

abbrev pub set_head : SetStatement → SetHead
set_head s = record { module_name = s.module_name; at = s.at; attribute = s.attribute; names = length (leaves s.expr) }

abbrev pub set_seen : SetView → SetHead
set_seen v = record { module_name = v.«module».now; at = place_of v.at; attribute = v.attribute.now; names = v.names }

-- permissions but for the names of an expression, which are counted
pub data PermissionsHead : Type 0 where
  class_head_of : List ℕ → ℕ → PermissionsHead
  set_head_of : List ℕ → PermissionsHead

abbrev pub permissions_head : ResolvedPermissions → PermissionsHead
permissions_head (of_class the_class permissions) = class_head_of the_class (length (leaves permissions))
permissions_head (of_set set) = set_head_of set

abbrev pub permissions_seen : PermissionsView → PermissionsHead
permissions_seen (permits.OfClass the_class permissions) = class_head_of the_class.now permissions
permissions_seen (permits.OfSet set) = set_head_of set.now

-- the names of a rule's expression of permissions, in their order
abbrev pub named_in : ResolvedPermissions → List (List ℕ)
named_in (of_class the_class permissions) = leaves permissions
named_in (of_set set) = []

-- a rule but for the names of its permissions
pub record RuleHead : Type 0 where
  pub module_name : List ℕ
  pub at : Place
  pub kind : RuleKind
  pub source : Element
  pub target : ResolvedTarget
  pub permissions : PermissionsHead

abbrev pub rule_head : Rule → RuleHead
rule_head r = record {
  module_name = r.module_name;
  at = r.at;
  kind = r.kind;
  source = r.source;
  target = r.target;
  permissions = permissions_head r.permissions;
}

abbrev pub rule_seen : RuleView → RuleHead
rule_seen v = record {
  module_name = v.«module».now;
  at = place_of v.at;
  kind = rule_kind_of v.kind;
  source = element_seen v.source;
  target = resolved_target_seen v.target;
  permissions = permissions_seen v.permissions;
}

-- a statement of a permission set but for its permissions, of which those that are named are counted
pub record PermissionSetHead : Type 0 where
  pub module_name : List ℕ
  pub at : Place
  pub set : List ℕ
  pub the_class : List ℕ
  pub permissions : ℕ

abbrev pub permission_set_head : PermissionSetStatement → PermissionSetHead
permission_set_head s = record { module_name = s.module_name; at = s.at; set = s.set; the_class = s.the_class; permissions = length (leaves s.permissions) }

abbrev pub permission_set_seen : PermissionSetView → PermissionSetHead
permission_set_seen v = record { module_name = v.«module».now; at = place_of v.at; set = v.set.now; the_class = v.class.now; permissions = v.permissions }
