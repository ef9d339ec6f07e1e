use Rattle.cil_symbol_changes.proofs.ChangeLemmas.{AreTurned}
use Rattle.cil_symbol_changes.proofs.appeared.turn_round.Given as goal

-- the changes so far are turned round
abbrev pub invariant-loop-place : goal.invariant-loop-place
invariant-loop-place l = AreTurned l.fn.changes l.place l.changes
