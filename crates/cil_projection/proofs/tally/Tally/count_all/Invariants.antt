use Rattle.std.proofs.Common.{◌≡◌, fold, length}
use Rattle.cil_projection.specs.Pieces.{pieces_of}
use Rattle.cil_projection.specs.Statements.{counted}
use Rattle.cil_projection.proofs.tally.Tally.count_all.Given as goal

abbrev pub invariant-loop-rest : goal.invariant-loop-rest
invariant-loop-rest g l = fold counted l.self (pieces_of l.rest) ≡ fold counted l.fn.self (pieces_of l.fn.pieces)

abbrev pub decreases-loop-rest : goal.decreases-loop-rest
decreases-loop-rest g l = length l.rest
