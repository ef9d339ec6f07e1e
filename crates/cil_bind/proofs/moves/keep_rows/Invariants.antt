use Rattle.cil_bind.specs.Moves.{AreKeptTo}
use Rattle.cil_bind.proofs.moves.keep_rows.Given as goal

-- so many rows were taken
abbrev pub invariant-loop-i : goal.invariant-loop-i
invariant-loop-i g l = AreKeptTo l.kept l.fn.rows.items l.rows.items l.kinds.items l.moves l.i
