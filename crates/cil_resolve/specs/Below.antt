-- Numbers of a resolved policy that are below the number of names.
use Rattle.std.specs.Prelude.{ℕ, Bool, true, ◌&&◌, nat_lt}
use Rattle.std.specs.List.{list_all}
use Rattle.cil_expression.specs.declared.expression.Element.{Element}
use Rattle.cil_expression.specs.declared.expression.Element.TheVariants.{«Type», Attribute}
use Rattle.cil_resolve.specs.declared.numbered.ResolvedTarget.{ResolvedTarget}
use Rattle.cil_resolve.specs.declared.numbered.ResolvedTarget.TheVariants as aims
use Rattle.cil_resolve.specs.declared.numbered.NumberedName.{NumberedName}
use Rattle.cil_resolve.specs.declared.numbered.NumberedClass.{NumberedClass}
use Rattle.std.specs.Rc.{rc_value}
use Rattle.cil_resolve.specs.declared.numbered.NumberedPermissionSet.{NumberedPermissionSet}
use Rattle.cil_resolve.specs.declared.numbered.NumberedRule.{NumberedRule}
use Rattle.cil_resolve.specs.declared.numbered.ResolvedPermissions.{ResolvedPermissions}
use Rattle.cil_resolve.specs.declared.numbered.ResolvedPermissions.TheVariants as permits
use Rattle.cil_resolve.specs.declared.set_permissions.ClassPermission.{ClassPermission}
use Rattle.cil_resolve.specs.declared.numbered.NumberedSet.{NumberedSet}
use Rattle.cil_specs.specs.Expr.{leaves}
use Rattle.cil_expression.specs.Expression.{set_expr_in}
use Rattle.cil_resolve.specs.Numbers.{written_in}

-- whether the numbers are below this one
abbrev pub is_element_below : ℕ → Element → Bool
is_element_below n («Type» i) = nat_lt i n
is_element_below n (Attribute i) = nat_lt i n

abbrev pub is_target_below : ℕ → ResolvedTarget → Bool
is_target_below n aims.Itself = true
is_target_below n (aims.Element e) = is_element_below n e

abbrev pub is_permission_below : ℕ → ClassPermission → Bool
is_permission_below n g = nat_lt g.class n && nat_lt g.permission n

abbrev pub are_permissions_below : {A : Type 0} → ℕ → ResolvedPermissions A → Bool
are_permissions_below n (permits.OfClass p) = nat_lt p.class n && list_all (λ q. nat_lt q n) p.given
are_permissions_below n (permits.OfSet s) = nat_lt s.set n && list_all (is_permission_below n) (rc_value s.given).items

abbrev pub is_rule_below : {A : Type 0} → ℕ → NumberedRule A → Bool
is_rule_below n r = is_element_below n r.source && (is_target_below n r.target && are_permissions_below n r.permissions)

abbrev pub is_permission_set_below : {A : Type 0} → ℕ → NumberedPermissionSet A → Bool
is_permission_set_below n s = nat_lt s.set n && (nat_lt s.permissions.class n && list_all (λ q. nat_lt q n) s.permissions.given)

-- so are those that permissions are written with
abbrev pub are_written_below : {A : Type 0} → ℕ → ResolvedPermissions A → Bool
are_written_below n (permits.OfClass p) = list_all (λ q. nat_lt q n) (leaves (written_in p))
are_written_below n (permits.OfSet s) = true

abbrev pub is_written_below : {A : Type 0} → ℕ → NumberedRule A → Bool
is_written_below n r = are_written_below n r.permissions

abbrev pub is_set_below : {A : Type 0} → ℕ → NumberedSet A → Bool
is_set_below n s = nat_lt s.attribute n && list_all (is_element_below n) (leaves (set_expr_in s.expression))

abbrev pub is_name_below : ℕ → NumberedName → Bool
is_name_below n d = nat_lt d.name n

abbrev pub is_class_below : {A : Type 0} → ℕ → NumberedClass A → Bool
is_class_below n c = nat_lt c.name n && list_all (λ p. nat_lt p n) c.permissions.items
