use Rattle.cil_keyed_lines.proofs.Common.{◌≡◌, ◌+◌, ◌-◌, ◌*◌, ◌<◌, ◌≤◌, ℕ, length, take, came, count_before, lines_in, name_before, name_now, now_in, times, went, AreCounted, AreLines, AreLogged}
use Rattle.cil_keyed_lines.proofs.moves.move_places.Given as goal

-- the places so far have moved
abbrev pub invariant-loop-from : goal.invariant-loop-from
invariant-loop-from g l = record {
  within : l.from ≤ length l.places;
  lined : AreLines l.names l.lines;
  counted : AreCounted l.names l.lines;
  more : lines_in l.fn.lines ≤ lines_in l.lines;
  len : length l.names.named ≡ length l.fn.names.named;
  now : (p t : ℕ) → now_in l.names l.lines p t + times (take l.from l.places) p * went l.moved t ≡ now_in l.fn.names l.fn.lines p t + times (take l.from l.places) p * came l.moved t;
  names : (p : ℕ) → times (take l.from l.places) p ≡ 0 → name_now l.names p ≡ name_now l.fn.names p;
  names_before : (p : ℕ) → name_before l.names p ≡ name_before l.fn.names p;
  before : (m t : ℕ) → m < lines_in l.fn.lines → count_before l.lines m t ≡ count_before l.fn.lines m t;
  logged : AreLogged l.fn.names → AreLogged l.names;
}

abbrev pub decreases-loop-from : goal.decreases-loop-from
decreases-loop-from g l = length l.places - l.from
