-- Where the steps of a log were.
use Rattle.std.specs.Prelude.{◌≡◌, ℕ, ◌<◌, ◌≤◌, false, slice_index_or}
use Rattle.cil_recorded.specs.declared.step.Step.{Step}
use Rattle.cil_recorded.specs.Recorded.{State, steps_in}

-- a step from the oldest on; any where there is none
abbrev pub step_at : State → ℕ → Step
step_at s k = slice_index_or s.log k (record { line = 0; word = 0; mask = 0; turned = 0; up = false; clears = false })

-- no step from one on is of the word of a line
abbrev pub IsUntouched : State → ℕ → ℕ → ℕ → Type 0
IsUntouched s from line word = (k : ℕ) → from ≤ k → k < steps_in s → (step_at s k).line ≡ line → (step_at s k).word ≡ word → ⊥
