-- How far the counters of a line move, word by word.
use Rattle.std.specs.Prelude.{◌+◌, ◌≤◌, ◌<◌, ◌^◌, ◌==◌, ℕ, List, length, count_ones, slice_index_or, sum_by, if◌then◌else◌}
use Rattle.cil_lines.specs.Limit.{CanRaise}
use Rattle.cil_lines.specs.Line.{hit}
use Rattle.cil_recorded.specs.Recorded.{State, count_now, limit_now}
use Rattle.cil_keyed_lines.specs.declared.moved.Moved.{Moved}

abbrev pub went : List Moved → ℕ → ℕ
went moved t = sum_by (λ m. hit m.word m.gone t) moved

abbrev pub came : List Moved → ℕ → ℕ
came moved t = sum_by (λ m. hit m.word m.come t) moved

-- how many counters of a line move
abbrev pub ones_of : List Moved → ℕ
ones_of moved = sum_by (λ m. count_ones m.gone + count_ones m.come) moved

abbrev pub move_at : List Moved → ℕ → Moved
move_at moved i = slice_index_or moved i (record { word = 0; gone = 0; come = 0 })

-- the words rise, and have numbers of targets
pub record AreMoves (moved : List Moved) : Type 0 where
  pub short : (i : ℕ) → i < length moved → (move_at moved i).word < 2 ^ 58
  pub rising : (i j : ℕ) → i < j → j < length moved → (move_at moved i).word < (move_at moved j).word

-- so much at the targets of a line, and nothing elsewhere
unfoldable pub in_line : ℕ → (ℕ → ℕ) → ℕ → ℕ → ℕ
in_line line amount l t = if l == line then amount t else 0

-- what comes in the words from one on can be raised without memory
abbrev pub HasRoomFrom : State → ℕ → List Moved → ℕ → Type 0
HasRoomFrom s line moved from = (i : ℕ) → from ≤ i → i < length moved
    → CanRaise (count_now s line) (limit_now s line) (move_at moved i).word (move_at moved i).come

-- and in those before it
abbrev pub HasRoomTo : State → ℕ → List Moved → ℕ → Type 0
HasRoomTo s line moved to = (i : ℕ) → i < to → i < length moved
    → CanRaise (count_now s line) (limit_now s line) (move_at moved i).word (move_at moved i).come
