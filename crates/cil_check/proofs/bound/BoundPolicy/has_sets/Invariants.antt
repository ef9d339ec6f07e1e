use Rattle.cil_check.proofs.Common.{◌≡◌, [], List, Placed, IsOf}
use Rattle.cil_check.proofs.SetLemmas.{sets_before}
use Rattle.cil_check.proofs.bound.BoundPolicy.has_sets.Given as goal

-- the statements gone over are no set statements
abbrev pub invariant-loop-i : goal.invariant-loop-i
invariant-loop-i g l = (policy : List Placed) → IsOf l.self policy → sets_before policy l.i ≡ []
