use Rattle.std.proofs.Common.{◌≡◌, take}
use Rattle.cil_lines.proofs.higher.copied.Given as goal

-- the copies are those of the digits so far
abbrev pub invariant-loop-i : goal.invariant-loop-i
invariant-loop-i g l = l.copies.items ≡ take l.i l.digits
