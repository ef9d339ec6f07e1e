use Rattle.std.proofs.Common.{◌≡◌, ◌+◌, ◌*◌, ℕ, take, drop}
use Rattle.cil_recorded.proofs.TurnLemmas.{next}
use Rattle.cil_recorded.specs.Differences.{Ascends, alone_at, appeared_at, balance_at, change_key, gone_at, low_at, turn_key}
use Rattle.cil_recorded.proofs.recorded_lines.changes.split.Given as goal

-- the turns so far are split, and those that come are behind them
abbrev pub invariant-loop-turn : goal.invariant-loop-turn
invariant-loop-turn g l = record {
  up : Ascends change_key 0 l.changes.items;
  rest : Ascends turn_key (next change_key 0 l.changes.items) (drop l.turn-index l.turns);
  balance : (m t : ℕ) → balance_at (take l.turn-index l.turns) m t ≡ appeared_at l.changes.items m t + 3 * gone_at l.changes.items m t + 2 * alone_at (take l.turn-index l.turns) m t;
  low : (m t : ℕ) → appeared_at l.changes.items m t + gone_at l.changes.items m t ≡ low_at (take l.turn-index l.turns) m t;
}
