use Rattle.std.proofs.Common.{◌≡◌, drop, slice_get}
use Rattle.cil_violations.specs.Permissions.{shared}
use Rattle.cil_violations.proofs.violation.Permissions.get.Given as goal

abbrev pub invariant-loop-permission : goal.invariant-loop-permission
invariant-loop-permission g l = slice_get (shared (drop l.permission-index l.self-inside.never.now) l.self-inside.allowed.now) l.left ≡ slice_get (shared l.self-inside.never.now l.self-inside.allowed.now) l.i
