use Rattle.cil_recorded.proofs.Common.{◌≡◌, ℕ, take, balance_at, turned_in}
use Rattle.cil_recorded.proofs.turn.turns_of.Given as goal

abbrev pub invariant-loop-step : goal.invariant-loop-step
invariant-loop-step g l = (m t : ℕ) → balance_at l.turns.items m t ≡ turned_in (take l.step-index l.log) m t
