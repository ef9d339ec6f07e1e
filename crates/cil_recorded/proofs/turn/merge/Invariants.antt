use Rattle.cil_recorded.proofs.Common.{◌≡◌, ◌+◌, ◌%◌, ◌<◌, ◌≤◌, ℕ, length, take, get_or, Turn, Ascends, balance_at, balance_of, turn_key}
use Rattle.cil_recorded.proofs.TurnLemmas.{next}
use Rattle.cil_recorded.proofs.turn.merge.Given as goal

-- the current turn is behind those merged, and not behind those that come
abbrev pub invariant-loop-turn : goal.invariant-loop-turn
invariant-loop-turn g l = record {
  up : Ascends turn_key 0 l.merged.items;
  above : next turn_key 0 l.merged.items ≤ turn_key l.current;
  low : (k : ℕ) (d : Turn) → l.turn-index ≤ k → k < length l.turns → turn_key l.current ≤ turn_key (get_or l.turns k d);
  turned : (m t : ℕ) → (balance_at l.merged.items m t + balance_of l.current m t) % 4 ≡ balance_at (take l.turn-index l.turns) m t % 4;
}
