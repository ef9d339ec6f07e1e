use Rattle.std.proofs.Common.{◌≡◌, ◌++◌, length, map}
use Rattle.cil_projection.specs.Pieces.{blank}
use Rattle.cil_projection.proofs.render.put_blanked.Given as goal

abbrev pub invariant-loop-rest : goal.invariant-loop-rest
invariant-loop-rest g l = l.out.items ++ map blank l.rest ≡ l.fn.out.items ++ map blank l.fn.bytes

abbrev pub decreases-loop-rest : goal.decreases-loop-rest
decreases-loop-rest g l = length l.rest
