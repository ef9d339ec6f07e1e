-- How far the counters of a line go without memory.
use Rattle.std.specs.Prelude.{◌≡◌, ℕ, ◌+◌, ◌*◌, ◌/◌, ◌<◌, ◌≤◌, ◌==◌, ltb, Bool, true, false, if◌then◌else◌, List, [], ◌∷◌, length}
use Rattle.cil_lines.specs.declared.digit.Entry.{Entry}
use Rattle.cil_lines.specs.Digit.{Words}
use Rattle.cil_lines.specs.Line.{Counters, value, hit}

-- whether the word has an entry
abbrev pub has_entry : List Entry → ℕ → Bool
has_entry [] w = false
has_entry (e ∷ es) w = if e.word == w then true else has_entry es w

-- whether the word has a place in a digit
unfoldable pub has_place : Words → ℕ → Bool
has_place d w = if ltb w (length d.dense) then true else has_entry d.sparse w

-- what the counters of a word stay below without memory: each digit in which the word has a place doubles it
unfoldable pub limit : List Words → ℕ → ℕ
limit [] w = 1
limit (d ∷ ds) w = if has_place d w then 2 * limit ds w else 1

unfoldable pub limit_of : Counters → ℕ → ℕ
limit_of c w = limit (c.lowest ∷ c.higher) w

-- each counter is below the limit of its word
unfoldable pub AreBelow : Counters → Type 0
AreBelow c = (w b : ℕ) → value (c.lowest ∷ c.higher) w b < limit_of c w

-- by these counters and limits each target of a mask can be raised by 1 without memory
abbrev pub CanRaise : (ℕ → ℕ) → (ℕ → ℕ) → ℕ → ℕ → Type 0
CanRaise counts limits word mask = (t : ℕ) → hit word mask t ≡ 1 → counts t + 1 < limits (t / 64)

-- each target of a mask can be lowered by 1
abbrev pub CanLower : (ℕ → ℕ) → ℕ → ℕ → Type 0
CanLower counts word mask = (t : ℕ) → hit word mask t ≤ counts t
