use Rattle.std.proofs.Common.{◌≡◌, [], Vec, length, Contains}
use Rattle.cil_resolve.specs.declared.set_permissions.ClassPermission.{ClassPermission}
use Rattle.cil_resolve.proofs.gathering.empty_lists.Given as goal

-- so many lists, each empty
abbrev pub invariant-loop : goal.invariant-loop
invariant-loop g l = record {
  long : length l.lists.items ≡ l.counter;
  empty : (list : Vec ClassPermission _) → Contains l.lists.items list → list.items ≡ [];
}
