use Rattle.std.proofs.Common.{◌≡◌, ◌≤◌, ◌<◌, ◌/◌, ◌-◌, ◌^◌, ℕ}
use Rattle.cil_lines.specs.Line.{count_of}
use Rattle.cil_lines.proofs.line.Line.search_present_word.Given as goal

-- no word that was passed has a target
abbrev pub invariant-loop-word : goal.invariant-loop-word
invariant-loop-word g l = (l.initial.from ≤ l.from) × ((t : ℕ) → l.initial.from ≤ t / 64 → t / 64 < l.from → count_of l.self t ≡ 0)

abbrev pub decreases-loop-word : goal.decreases-loop-word
decreases-loop-word g l = 2 ^ 58 - l.from
