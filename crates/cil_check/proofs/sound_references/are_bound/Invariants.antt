use Rattle.cil_check.proofs.Common.{◌≡◌, true, is_some, list_all, take}
use Rattle.cil_check.proofs.sound_references.are_bound.Given as goal

-- the references gone over are bound
abbrev pub invariant-loop-k : goal.invariant-loop-k
invariant-loop-k l = list_all is_some (take l.k l.bound) ≡ true
