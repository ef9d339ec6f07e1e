use Rattle.std.proofs.Common.{◌≡◌, false, take}
use Rattle.std.specs.List.{list_any}
use Rattle.cil_violations.specs.Permissions.{is_among}
use Rattle.cil_violations.proofs.permissions.is_one_among.Given as goal

-- none of those so far is
abbrev pub invariant-loop-permission : goal.invariant-loop-permission
invariant-loop-permission l = list_any (is_among l.others) (take l.permission-index l.permissions) ≡ false
