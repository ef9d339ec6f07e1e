use Rattle.cil_keyed_lines.proofs.Common.{◌≡◌, ℕ, count_before, count_now, lines_in, spare, HasRoomTo}
use Rattle.cil_keyed_lines.proofs.line_moves.make_digits.Given as goal

abbrev pub invariant-loop-step : goal.invariant-loop-step
invariant-loop-step g l = record {
  room : HasRoomTo l.lines l.line l.moved l.step-index;
  spare : spare l.lines ≡ spare l.fn.lines;
  len : lines_in l.lines ≡ lines_in l.fn.lines;
  now : (m t : ℕ) → count_now l.lines m t ≡ count_now l.fn.lines m t;
  before : (m t : ℕ) → count_before l.lines m t ≡ count_before l.fn.lines m t;
}
