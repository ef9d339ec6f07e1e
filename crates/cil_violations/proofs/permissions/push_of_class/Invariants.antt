use Rattle.std.proofs.Common.{◌≡◌, ◌++◌, map, take}
use Rattle.cil_violations.proofs.permissions.push_of_class.Given as goal

abbrev pub invariant-loop-permission : goal.invariant-loop-permission
invariant-loop-permission g l = l.list.items ≡ l.fn.list.items ++ map (λ n. record { class = l.class; permission = n }) (take l.permission-index l.permissions)
