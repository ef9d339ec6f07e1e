use Rattle.cil_recorded.proofs.Common.{◌≡◌, ◌<◌, ◌⊎◌, ℕ, false, length, has_line, count_now, lines_in, steps_in, HasCount}
use Rattle.cil_recorded.proofs.recorded_lines.RecordedLines.give_up_words.Given as goal

-- lines of no step that is left had none, or have a counter above 0
abbrev pub invariant-loop-i : goal.invariant-loop-i
invariant-loop-i g l = record {
  log : steps_in l.self ≡ 0;
  len : lines_in l.self ≡ lines_in l.fn.self;
  now : (m t : ℕ) → count_now l.self m t ≡ count_now l.fn.self m t;
  steps : length l.steps.items ≡ length l.fn.steps.items;
  counted : (m : ℕ) → m < lines_in l.fn.self → has_line l.steps.items m ≡ false → (has_line l.fn.steps.items m ≡ false) ⊎ HasCount l.fn.self m;
}
