use Rattle.cil_resolve.proofs.Common.{◌≡◌, ◌++◌, map, take}
use Rattle.cil_resolve.proofs.gathering.add.Given as goal

-- those so far are behind what was there
abbrev pub invariant-loop-permission : goal.invariant-loop-permission
invariant-loop-permission g l = l.list.items ≡ l.fn.list.items ++ map (λ n. record { class = l.permissions.class; permission = n }) (take l.permission-index l.permissions.given)
