-- Counters of set statements by attribute and type, now and before the steps.
use Rattle.std.specs.Prelude.{◌≡◌, ℕ, ◌+◌, ◌-◌, ◌*◌, ◌/◌, ◌<◌, ◌≤◌, min, List, length}
use Rattle.std.specs.Int.{bit_at}
use Rattle.cil_lines.specs.Line.{IsPresence}
use Rattle.cil_recorded.specs.Recorded.{State}
use Rattle.cil_recorded.specs.Recorded as recorded
use Rattle.cil_member_rows.specs.Held.{bits_at, words_of}
use Rattle.cil_member_rows.specs.Marks.{mark_at}
use Rattle.cil_member_rows.specs.Words.{AreSome, IsOutside}
use Rattle.cil_member_rows.specs.declared.words.Words.{Words}

abbrev pub rows_in : State → ℕ
rows_in s = recorded.lines_in s

-- the number of steps since the last settling
abbrev pub steps_in : State → ℕ
steps_in s = recorded.steps_in s

-- how many set statements of the attribute of a row hold a type
abbrev pub count_now : State → ℕ → ℕ → ℕ
count_now s = recorded.count_now s

-- how many held it before the steps, and hold it again after `undo`
abbrev pub count_before : State → ℕ → ℕ → ℕ
count_before s = recorded.count_before s

-- the mask of the types of a word that are members by one of two counters, and not by the other
abbrev pub IsChange : (ℕ → ℕ) → (ℕ → ℕ) → ℕ → ℕ → Type 0
IsChange before now word mask = (b : ℕ) → b < 64
    → bit_at mask b ≡ (min 1 (now (64 * word + b)) - min 1 (before (64 * word + b))) + (min 1 (before (64 * word + b)) - min 1 (now (64 * word + b)))

-- the bits say who was a member before the steps, in words enough for each member now
pub record IsHeld (held : List (List ℕ)) (s : State) : Type 0 where
  pub rows : rows_in s ≤ length held
  pub was : (r w : ℕ) → IsPresence (count_before s r) w (bits_at held r w)
  pub room : (r t : ℕ) → words_of held r ≤ t / 64 → count_now s r t ≡ 0

-- the counters of words without a mark are those before the steps, and there are steps where a row has marked words
pub record AreMarked (marks : List Words) (s : State) : Type 0 where
  pub rows : rows_in s ≤ length marks
  pub same : (r t : ℕ) → IsOutside (mark_at marks r) (t / 64) → count_before s r t ≡ count_now s r t
  pub steps : (r : ℕ) → AreSome (mark_at marks r) → 0 < steps_in s
