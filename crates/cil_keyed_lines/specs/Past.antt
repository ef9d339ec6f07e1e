-- What stood before the steps.
use Rattle.std.specs.Prelude.{◌≡◌, ◌≢◌, ◌+◌, ◌-◌, ◌*◌, ◌/◌, ◌^◌, ◌<◌, ◌≤◌, ◌==◌, ◌&&◌, ◌||◌, ℕ, Bool, false, true, List, Option, MatchOption, ⊤, length, nat_lt, min, slice_index, slice_index_or}
use Rattle.std.specs.List.{All}
use Rattle.std.specs.List.Sorted.{IsPartitionPoint}
use Rattle.std.specs.Int.{bit_at}
use Rattle.cil_recorded.specs.Differences.{appeared_at, change_key, gone_at, Ascends}
use Rattle.cil_recorded.specs.Recorded as recorded
use Rattle.cil_recorded.specs.Recorded.{State}
use Rattle.cil_recorded.specs.declared.recorded_lines.changes.Change.{Change}
use Rattle.cil_keyed_lines.specs.Keyed.{Keyed, before_at, now_at}
use Rattle.cil_keyed_lines.specs.Names.{name_before, name_now}
use Rattle.cil_keyed_lines.specs.declared.keyed_lines.past.Past.{Past}

-- whether the counter of a target and a place is above 0 as it was
abbrev pub IsSame : Keyed → ℕ → ℕ → Type 0
IsSame k i t = min 1 (now_at k i t) ≡ min 1 (before_at k i t)

-- all of a place from a word on are
abbrev pub NoneTurned : Keyed → ℕ → ℕ → Type 0
NoneTurned k i from = (t : ℕ) → from ≤ t / 64 → IsSame k i t

-- those of the words between two are
pub record IsNextTurned (k : Keyed) (i from word : ℕ) : Type 0 where
  pub from_on : from ≤ word
  pub first : (t : ℕ) → from ≤ t / 64 → t / 64 < word → IsSame k i t

-- two places count the same, now and before the steps
abbrev pub AreAlike : Keyed → (i j : ℕ) → Type 0
AreAlike k i j = (t : ℕ) → (now_at k i t ≡ now_at k j t) × (before_at k i t ≡ before_at k j t)

-- how often a target of a line turned
abbrev pub turns_at : List Change → ℕ → ℕ → ℕ
turns_at changes l t = appeared_at changes l t + gone_at changes l t

-- none of a line from a word on did
abbrev pub NoTurn : List Change → ℕ → ℕ → Type 0
NoTurn changes l from = (t : ℕ) → from ≤ t / 64 → turns_at changes l t ≡ 0

-- nor did those of the words between two
pub record IsNextTurn (changes : List Change) (l from word : ℕ) : Type 0 where
  pub from_on : from ≤ word
  pub first : (t : ℕ) → from ≤ t / 64 → t / 64 < word → turns_at changes l t ≡ 0

-- a word is below one that was found, or none was
abbrev pub IsBelow : Option ℕ → ℕ → Type 0
IsBelow found word = MatchOption found ⊤ (λ w. word < w)

-- one that was found is from a word on
abbrev pub IsFrom : ℕ → Option ℕ → Type 0
IsFrom from found = MatchOption found ⊤ (λ w. from ≤ w)

-- whether a change is of a line before one, or of a word of it before one
abbrev pub is_before : (l word : ℕ) → Change → Bool
is_before l word c = nat_lt c.line l || ((c.line == l) && nat_lt c.word word)

-- the changes before a place are, and no others
abbrev pub IsSplit : List Change → (l word : ℕ) → ℕ → Type 0
IsSplit changes l word = IsPartitionPoint (λ c. is_before l word c ≡ true) (λ c. is_before l word c ≡ false) changes

-- the bits of a change are those of a word of a line
abbrev pub AreBits : List Change → (l word : ℕ) → Change → Type 0
AreBits changes l word c = (b : ℕ) → b < 64
    → (bit_at c.appeared b ≡ appeared_at changes l (64 * word + b))
    × (bit_at c.gone b ≡ gone_at changes l (64 * word + b))

-- each line of a change is marked
abbrev pub AreMarked : List Bool → List Change → Type 0
AreMarked marks changes = (l : ℕ) → slice_index_or marks l false ≡ false → All (λ c. c.line ≢ l) changes

-- the changes tell, line by line and word by word, which targets turned
pub record AreTurns (changes : List Change) (s : State) : Type 0 where
  pub order : Ascends change_key 0 changes
  pub short : All (λ c. c.word < 2 ^ 64) changes
  pub appeared : (l t : ℕ)
      → appeared_at changes l t ≡ min 1 (recorded.count_now s l t) - min 1 (recorded.count_before s l t)
  pub gone : (l t : ℕ)
      → gone_at changes l t ≡ min 1 (recorded.count_before s l t) - min 1 (recorded.count_now s l t)

-- the lines that turned are told, and the line that each place named
pub record IsPast {A : Type 0} (k : Keyed) (past : Past A) : Type 0 where
  pub turns : AreTurns past.turned.items k.lines
  pub marked : AreMarked past.has_turned.items past.turned.items
  pub named : (i : ℕ) → slice_index past.named.items i ≡ name_before k.names i

-- a place names the line that it named before, and the changes of that line from a word on begin at this index
pub record AreOwnFrom {A : Type 0} (k : Keyed) (past : Past A) (i from at : ℕ) : Type 0 where
  pub own : name_before k.names i ≡ name_now k.names i
  pub split : IsSplit past.turned.items (name_now k.names i) from at

-- the change is of the next word of the place in which a target may have turned, and tells which did
pub record IsOwnTurn {A : Type 0} (k : Keyed) (past : Past A) (i from at : ℕ) (c : Change) : Type 0 where
  pub next : IsNextTurned k i from c.word
  pub appeared : (b : ℕ) → b < 64
      → bit_at c.appeared b ≡ min 1 (now_at k i (64 * c.word + b)) - min 1 (before_at k i (64 * c.word + b))
  pub gone : (b : ℕ) → b < 64
      → bit_at c.gone b ≡ min 1 (before_at k i (64 * c.word + b)) - min 1 (now_at k i (64 * c.word + b))
  pub within : at < length past.turned.items
  pub room : at + 1 < 2 ^ 64
  pub behind : c.word + 1 < 2 ^ 64 → AreOwnFrom k past i (c.word + 1) (at + 1)
