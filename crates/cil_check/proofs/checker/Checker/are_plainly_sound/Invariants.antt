use Rattle.cil_check.proofs.Common.{◌≡◌, true, List, take, Placed, IsNoted}
use Rattle.cil_check.specs.Clean.{are_sound}
use Rattle.cil_check.proofs.checker.Checker.are_plainly_sound.Given as goal

-- the references gone over are sound
abbrev pub invariant-loop-k : goal.invariant-loop-k
invariant-loop-k g l = (policy : List Placed) → IsNoted l.self policy → are_sound l.self.bound.policy.now.kinds.items l.self.actuals (take l.k l.bound) ≡ true
