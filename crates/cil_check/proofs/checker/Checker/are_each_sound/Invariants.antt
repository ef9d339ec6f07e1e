use Rattle.cil_check.proofs.Common.{◌≡◌, true, take}
use Rattle.cil_check.specs.Clean.{are_sound}
use Rattle.cil_check.proofs.checker.Checker.are_each_sound.Given as goal

-- the references gone over are sound
abbrev pub invariant-loop-k : goal.invariant-loop-k
invariant-loop-k g l = are_sound l.self.bound.policy.now.kinds.items l.self.actuals (take l.k l.bound) ≡ true
