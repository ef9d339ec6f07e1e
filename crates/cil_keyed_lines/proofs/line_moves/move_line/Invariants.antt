use Rattle.cil_keyed_lines.proofs.Common.{◌≡◌, ◌+◌, ◌*◌, ◌≤◌, ℕ, length, take, came, count_before, count_now, in_line, lines_in, spare, went, HasRoomFrom}
use Rattle.cil_keyed_lines.proofs.line_moves.move_line.Given as goal

-- the counters of the words so far have moved
abbrev pub invariant-loop-step : goal.invariant-loop-step
invariant-loop-step g l = record {
  room : HasRoomFrom l.lines l.line l.moved l.step-index;
  spare : 2 * length l.moved ≤ spare l.lines + 2 * l.step-index;
  len : lines_in l.lines ≡ lines_in l.fn.lines;
  now : (m t : ℕ) → count_now l.lines m t + in_line l.line (went (take l.step-index l.moved)) m t ≡ count_now l.fn.lines m t + in_line l.line (came (take l.step-index l.moved)) m t;
  before : (m t : ℕ) → count_before l.lines m t ≡ count_before l.fn.lines m t;
}
