-- Permissions of classes, in their order.
use Rattle.std.specs.Prelude.{◌↔◌, List, Contains}
use Rattle.std.specs.List.Sorted.{IsStrictlySortedBy}
use Rattle.std.specs.Ordering.{nat_cmp, on, then_cmp}
use Rattle.std.specs.declared.cmp.Ordering.{Ordering}
use Rattle.cil_resolve.specs.declared.set_permissions.ClassPermission.{ClassPermission}

-- the order: by class, and then by permission
abbrev pub permission_cmp : ClassPermission → ClassPermission → Ordering
permission_cmp = then_cmp (on (λ g. g.class) nat_cmp) (on (λ g. g.permission) nat_cmp)

-- each once, in their order
abbrev pub AreInOrder : List ClassPermission → Type 0
AreInOrder = IsStrictlySortedBy permission_cmp

-- the same permissions in order, each once
pub record IsOrdered (permissions ordered : List ClassPermission) : Type 0 where
  pub rising : AreInOrder ordered
  pub same : (g : ClassPermission) → Contains ordered g ↔ Contains permissions g
