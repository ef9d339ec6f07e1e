use Rattle.cil_recorded.proofs.Common.{◌≡◌, ◌≤◌, ℕ, length, vec_len, reverse, take, undone, CanUndo, count_before, count_in, limit_in}
use Rattle.cil_recorded.proofs.recorded_lines.RecordedLines.undo_into.Given as goal

-- the steps that are left lead back to the counters before
abbrev pub invariant-loop-left : goal.invariant-loop-left
invariant-loop-left g l = record {
  len : length l.self-inside.lines.items ≡ length l.fn.self.lines;
  log : l.self-inside.log.items ≡ l.fn.self.log;
  within : l.left ≤ vec_len l.self-inside.log;
  can : CanUndo (length l.self-inside.lines.items) (reverse (take l.left l.fn.self.log)) (count_in l.self-inside.lines.items) (limit_in l.self-inside.lines.items);
  same : (m t : ℕ) → undone (reverse (take l.left l.fn.self.log)) (count_in l.self-inside.lines.items) m t ≡ count_before l.fn.self m t;
}

abbrev pub decreases-loop-left : goal.decreases-loop-left
decreases-loop-left g l = l.left
