use Rattle.std.proofs.Common.{◌≡◌, length}
use Rattle.cil_projection.specs.Statements.{has_mark}
use Rattle.cil_projection.proofs.marked.has_mark.Given as goal

abbrev pub invariant-loop-rest : goal.invariant-loop-rest
invariant-loop-rest l = has_mark l.rest ≡ has_mark l.fn.word

abbrev pub decreases-loop-rest : goal.decreases-loop-rest
decreases-loop-rest l = length l.rest
