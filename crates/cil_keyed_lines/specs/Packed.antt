-- Lines that went to where no place named one.
use Rattle.std.specs.Prelude.{◌≡◌, ◌≢◌, ◌<◌, ◌≤◌, ℕ, List, slice_index}
use Rattle.cil_recorded.specs.Recorded.{State, count_now, lines_in}

-- a line is there, with the counters that another one had
abbrev pub IsNow : State → State → ℕ → ℕ → Type 0
IsNow old new l l' = (l' < lines_in new) × ((t : ℕ) → count_now new l' t ≡ count_now old l t)

-- Lines that places name stand below an end: those that stood there stay, and of each other one it is told where it
-- went. Line 0 stays.
pub record AreFilled (users went_to : List ℕ) (old new : State) (end : ℕ) : Type 0 where
  pub first : (t : ℕ) → count_now new 0 t ≡ count_now old 0 t
  pub left : (l : ℕ) → l ≢ 0 → 0 < slice_index users l → l < end → IsNow old new l l
  pub gone : (l : ℕ) → l ≢ 0 → 0 < slice_index users l → end ≤ l
      → (slice_index went_to l ≢ 0) × IsNow old new l (slice_index went_to l)
