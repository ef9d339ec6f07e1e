use Rattle.std.proofs.Common.{◌≡◌, length}
use Rattle.cil_projection.proofs.ComponentLemmas.{last_from}
use Rattle.cil_projection.proofs.component.last_component.Given as goal

abbrev pub invariant-loop-rest : goal.invariant-loop-rest
invariant-loop-rest l = last_from l.last l.rest ≡ last_from l.fn.name l.fn.name

abbrev pub decreases-loop-rest : goal.decreases-loop-rest
decreases-loop-rest l = length l.rest
