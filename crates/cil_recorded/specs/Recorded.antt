-- Lines of counters and the log of their steps.
use Rattle.std.specs.Prelude.{◌≡◌, ◌⊎◌, ℕ, zero, suc, ◌+◌, ◌-◌, ◌*◌, ◌<◌, false, List, [], length, reverse, slice_index_or}
use Rattle.cil_lines.specs.Line.{Counters, count_of}
use Rattle.cil_lines.specs.Limit.{limit_of}
use Rattle.cil_recorded.specs.declared.step.Step.{Step}
use Rattle.cil_recorded.specs.Log.{falls, has_line, undone, CanUndo, IsTurned}

-- the lines, the steps since the last settling from the oldest on, and the number of steps that can be logged without memory
pub record State : Type 0 where
  pub lines : List Counters
  pub log : List Step
  pub room : ℕ

-- the line of a place; one whose counters are all 0 where there is none
abbrev pub line_of : List Counters → ℕ → Counters
line_of lines l = slice_index_or lines l (record { lowest = record { dense = []; sparse = [] }; higher = [] })

abbrev pub count_in : List Counters → ℕ → ℕ → ℕ
count_in lines l = count_of (line_of lines l)

abbrev pub limit_in : List Counters → ℕ → ℕ → ℕ
limit_in lines l = limit_of (line_of lines l)

-- the counter of a line and a target
abbrev pub count_now : State → ℕ → ℕ → ℕ
count_now s = count_in s.lines

-- what it was before the steps, and is again when they are taken back
abbrev pub count_before : State → ℕ → ℕ → ℕ
count_before s = undone (reverse s.log) (count_in s.lines)

-- what the counters of a line and a word stay below without memory
abbrev pub limit_now : State → ℕ → ℕ → ℕ
limit_now s = limit_in s.lines

abbrev pub lines_in : State → ℕ
lines_in s = length s.lines

-- the number of steps since the last settling
abbrev pub steps_in : State → ℕ
steps_in s = length s.log

-- the number of steps that can be logged without memory
abbrev pub spare : State → ℕ
spare s = s.room

-- the steps can be taken back, and say which targets came and went
pub record IsSound (lines : List Counters) (log : List Step) : Type 0 where
  pub can : CanUndo (length lines) (reverse log) (count_in lines) (limit_in lines)
  pub turned : IsTurned log (count_in lines) (undone (reverse log) (count_in lines))

-- the sum over the numbers below n
abbrev pub sum_below : ℕ → (ℕ → ℕ) → ℕ
sum_below zero f = 0
sum_below (suc n) f = sum_below n f + f n

-- how far the counters of a word moved, all together
unfoldable pub moved : (ℕ → ℕ) → (ℕ → ℕ) → ℕ → ℕ
moved old new word = sum_below 64 (λ b. (old (64 * word + b) - new (64 * word + b)) + (new (64 * word + b) - old (64 * word + b)))

-- the line of a place has a counter above 0
abbrev pub HasCount : State → ℕ → Type 0
HasCount s l = (t : ℕ) × (0 < count_now s l t)

-- A line without a step that took the last counters from a word had none before; and the line of a step down that took from a mask has a
-- counter left.
abbrev pub AreLeft : State → State → ℕ → ℕ → Type 0
AreLeft old new line mask = (l : ℕ) → has_line (falls new.log) l ≡ false → (has_line (falls old.log) l ≡ false) × (l ≡ line → (mask ≡ 0) ⊎ HasCount new line)
