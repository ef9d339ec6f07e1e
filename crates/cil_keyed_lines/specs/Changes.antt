-- Changes, place by place.
use Rattle.std.specs.Prelude.{◌≡◌, ◌≢◌, ◌+◌, ◌-◌, ◌/◌, ◌<◌, ◌≤◌, ℕ, List, min}
use Rattle.std.specs.List.{All}
use Rattle.cil_recorded.specs.Differences.{appeared_at, change_key, gone_at, key_of, Ascends}
use Rattle.cil_recorded.specs.declared.recorded_lines.changes.Change.{Change}
use Rattle.cil_keyed_lines.specs.Keyed.{Keyed, before_at, now_at}

-- they stand in their order, and all before a word of a place
pub record AreBelow (changes : List Change) (place word : ℕ) : Type 0 where
  pub order : Ascends change_key 0 changes
  pub below : All (λ c. change_key c + 1 ≤ key_of place word) changes

-- how many targets of a place appeared, and how many went: 1 for one that did
abbrev pub came_at : Keyed → ℕ → ℕ → ℕ
came_at k i t = min 1 (now_at k i t) - min 1 (before_at k i t)

abbrev pub went_at : Keyed → ℕ → ℕ → ℕ
went_at k i t = min 1 (before_at k i t) - min 1 (now_at k i t)

-- so much is added at the targets of a place in words below one
pub record AreAddedBelow (amount : ℕ → ℕ) (place word : ℕ) (old new : ℕ → ℕ → ℕ) : Type 0 where
  pub below : (t : ℕ) → t / 64 < word → new place t ≡ old place t + amount t
  pub from_on : (t : ℕ) → word ≤ t / 64 → new place t ≡ old place t
  pub others : (i t : ℕ) → i ≢ place → new i t ≡ old i t

-- at all targets of a place
pub record AreAdded (amount : ℕ → ℕ) (place : ℕ) (old new : ℕ → ℕ → ℕ) : Type 0 where
  pub here : (t : ℕ) → new place t ≡ old place t + amount t
  pub others : (i t : ℕ) → i ≢ place → new i t ≡ old i t

-- at those of the places before one, and nothing elsewhere
pub record AreAddedTo (amount : ℕ → ℕ → ℕ) (place : ℕ) (all : ℕ → ℕ → ℕ) : Type 0 where
  pub before : (i t : ℕ) → i < place → all i t ≡ amount i t
  pub from_on : (i t : ℕ) → place ≤ i → all i t ≡ 0

-- behind some changes stand those of the words of a place below one
pub record AreChangedBelow (k : Keyed) (place word : ℕ) (old new : List Change) : Type 0 where
  pub appeared : AreAddedBelow (came_at k place) place word (appeared_at old) (appeared_at new)
  pub gone : AreAddedBelow (went_at k place) place word (gone_at old) (gone_at new)

-- those of a place
pub record AreChanged (k : Keyed) (place : ℕ) (old new : List Change) : Type 0 where
  pub appeared : AreAdded (came_at k place) place (appeared_at old) (appeared_at new)
  pub gone : AreAdded (went_at k place) place (gone_at old) (gone_at new)

-- changes are those of the places before one
pub record AreChangedTo (k : Keyed) (place : ℕ) (changes : List Change) : Type 0 where
  pub appeared : AreAddedTo (came_at k) place (appeared_at changes)
  pub gone : AreAddedTo (went_at k) place (gone_at changes)
