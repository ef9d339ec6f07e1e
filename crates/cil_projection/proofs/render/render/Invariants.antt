use Rattle.std.proofs.Common.{◌≡◌, ◌++◌, length}
use Rattle.cil_projection.specs.Pieces.{pieces_of, rendered}
use Rattle.cil_projection.proofs.render.render.Given as goal

abbrev pub invariant-loop-rest : goal.invariant-loop-rest
invariant-loop-rest g l = l.out.items ++ rendered l.text (pieces_of l.rest) ≡ l.fn.out.items ++ rendered l.text (pieces_of l.fn.pieces)

abbrev pub decreases-loop-rest : goal.decreases-loop-rest
decreases-loop-rest g l = length l.rest
