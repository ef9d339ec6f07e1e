use Rattle.std.proofs.Common.{◌≡◌, take}
use Rattle.cil_optionals.proofs.permissions.is_same.Given as goal

-- so many bytes are the same
abbrev pub invariant-loop-i : goal.invariant-loop-i
invariant-loop-i l = take l.i l.name ≡ take l.i l.other
