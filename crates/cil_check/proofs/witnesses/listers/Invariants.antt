use Rattle.std.proofs.Common.{◌≡◌, length}
use Rattle.cil_check.proofs.witnesses.listers.Given as goal

-- as many keys as lists
abbrev pub invariant-loop-listed : goal.invariant-loop-listed
invariant-loop-listed g l = length l.listers.0 ≡ length l.listers.1
