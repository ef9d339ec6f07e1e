use Rattle.std.proofs.Common.{◌≡◌, map, take}
use Rattle.cil_violations.specs.Permissions.{shared}
use Rattle.cil_violations.proofs.permissions.shared_classes.Given as goal

-- the classes of those so far are listed
abbrev pub invariant-loop-permission : goal.invariant-loop-permission
invariant-loop-permission g l = l.list.items ≡ map (λ g. g.class) (shared (take l.permission-index l.permissions) l.others)
