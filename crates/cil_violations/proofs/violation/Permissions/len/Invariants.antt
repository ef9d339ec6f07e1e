use Rattle.std.proofs.Common.{◌≡◌, ◌≤◌, length, take}
use Rattle.cil_violations.specs.Permissions.{shared}
use Rattle.cil_violations.proofs.violation.Permissions.len.Given as goal

abbrev pub invariant-loop-permission : goal.invariant-loop-permission
invariant-loop-permission g l = record {
  few : l.count ≤ l.permission-index;
  so_far : l.count ≡ length (shared (take l.permission-index l.self-inside.never.now) l.self-inside.allowed.now);
}
