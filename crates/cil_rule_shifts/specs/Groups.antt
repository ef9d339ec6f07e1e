-- Sources whose targets change, with the keys and the words of theirs that move.
use Rattle.std.specs.Prelude.{◌≡◌, ◌<◌, ◌==◌, ◌/◌, ◌&&◌, ◌||◌, ℕ, Bool, IfOk, List, OnOk, Result, false, length, nat_lt, not, true}
use Rattle.std.specs.List.{IsDistinct}
use Rattle.cil_lines.specs.Line.{hit}
use Rattle.cil_keyed_lines.specs.Keyed.{Keyed, has_key, is_key, of_keys, steps_in, RiseAtMost, StaysBefore}
use Rattle.cil_keyed_lines.specs.Moves.{came, move_at, ones_of, went, AreMoves}
use Rattle.cil_keyed_lines.specs.declared.moved.Moved.{Moved}
use Rattle.cil_keyed_lines.specs.declared.symbol_key.SymbolKey.{SymbolKey}
use Rattle.cil_sums.specs.Rises.{RisesBy}
use Rattle.cil_rule_shifts.specs.Amounts.{ones, AreMoved, CountAtLeast}
use Rattle.cil_rule_shifts.specs.Moves.{differs, moves_where}
use Rattle.cil_rule_shifts.specs.Permits.{AreInOrder}
use Rattle.cil_rule_shifts.specs.Reach.{gives, has_head, has_source, one_if, reaches, takes, AreShort, IsShort}
use Rattle.cil_rule_shifts.specs.declared.group.Group.{Group}
use Rattle.cil_rule_shifts.specs.declared.head.RuleHead.{RuleHead}
use Rattle.cil_rule_shifts.specs.declared.reach.Part.{Part}
use Rattle.cil_rule_shifts.specs.declared.reach.Part.TheVariants.{Lost, Kept, Got}
use Rattle.cil_rule_shifts.specs.declared.reach.Reach.{Reach}
use Rattle.cil_rule_shifts.specs.declared.reach.Sources.{Sources}
use Rattle.cil_rule_shifts.specs.declared.targets.Targets.{Targets}

-- whether what was one, or not, and is one, or not, is of a part
abbrev pub in_part : Part → Bool → Bool → Bool
in_part Lost was is = was && not is
in_part Kept was is = was && is
in_part Got was is = is && not was

-- whether a symbol is one of some sources
abbrev pub is_among : {A : Type 0} → Sources A → ℕ → Bool
is_among sources s = in_part sources.part (has_source sources.was.now s) (has_source sources.is.now s)

-- whether it was or is a source
abbrev pub has_either : {A : Type 0} → Sources A → ℕ → Bool
has_either sources s = has_source sources.was.now s || has_source sources.is.now s

-- sources and targets are numbers of the code
pub record AreSources {A : Type 0} (sources : Sources A) : Type 0 where
  pub was : IsShort sources.was.now
  pub is : IsShort sources.is.now

pub record IsGroup {A : Type 0} (group : Group A) : Type 0 where
  pub permits : AreInOrder group.head.permits.now
  pub sources : AreSources group.sources
  pub was : AreShort group.was.now
  pub is : AreShort group.is.now

-- all sources have the same targets
abbrev pub ArePlain : {A : Type 0} → Targets A → Type 0
ArePlain targets = (s t : ℕ) → takes targets s t ≡ takes targets 0 t

-- the targets that some sources have by what a rule reaches
abbrev pub AreTargetsOf : {A : Type 0} → Sources A → Reach A → Targets A → Type 0
AreTargetsOf sources reach targets = (s t : ℕ) → (is_among sources s && takes targets s t) ≡ (is_among sources s && reaches reach s t)

-- whether some sources have a target by a rule's kind and permits
abbrev pub gives_to : {A : Type 0} → (ℕ → Bool) → RuleHead → Targets A → SymbolKey × ℕ → Bool
gives_to among head targets p = (among p.0.source && takes targets p.0.source p.1) && has_head head p.0

-- whether they had it or have it, and not both
abbrev pub moves_to : {A : Type 0} → (ℕ → Bool) → RuleHead → (was is : Targets A) → SymbolKey × ℕ → Bool
moves_to among head was is p = differs (gives_to among head was p) (gives_to among head is p)

-- the same of a group: whether some of its sources had an access, whether they have it, and whether it moves
abbrev pub had_by : {A : Type 0} → (ℕ → Bool) → Group A → SymbolKey × ℕ → Bool
had_by among group = gives_to among group.head group.was.now

abbrev pub has_by : {A : Type 0} → (ℕ → Bool) → Group A → SymbolKey × ℕ → Bool
has_by among group = gives_to among group.head group.is.now

abbrev pub moves_by : {A : Type 0} → (ℕ → Bool) → Group A → SymbolKey × ℕ → Bool
moves_by among group = moves_to among group.head group.was.now group.is.now

-- What some of its sources had is counted, and nothing is there to take back where the counters move for good.
pub record CanShift {A : Type 0} (among : ℕ → Bool) (group : Group A) (lines : Keyed) : Type 0 where
  pub sound : IsGroup group
  pub counted : CountAtLeast lines (ones (had_by among group))
  pub settled : group.for_good ≡ true → steps_in lines ≡ 0

-- The counters of some of its sources moved to what these have; where memory ran out, some of them may have.
pub record AreShifted {A E : Type 0} (among : ℕ → Bool) (group : Group A) (old new : Keyed) (result : Result ℕ E) : Type 0 where
  pub settled : group.for_good ≡ true → steps_in new ≡ 0
  pub now : OnOk result (AreMoved old new (ones (had_by among group)) (ones (has_by among group)))
  pub bounded : RiseAtMost old new (ones (has_by among group))
  pub before : group.for_good ≡ false → StaysBefore old new
  pub moved : IfOk result (RisesBy (moves_by among group) 0)

-- keys, each once, and what moves at each of them; what goes is counted
pub record CanMove (lines : Keyed) (keys : List SymbolKey) (moved : List Moved) : Type 0 where
  pub distinct : IsDistinct is_key keys
  pub words : AreMoves moved
  pub counted : CountAtLeast lines (of_keys keys (went moved))

-- whether a rule gives some sources an access by what it reaches and its permits
abbrev pub gives_part : {A : Type 0} → Sources A → Reach A → RuleHead → SymbolKey × ℕ → Bool
gives_part sources reach head p = is_among sources p.0.source && gives reach head p.0 p.1

-- whether it gave or gives it them, and not both
abbrev pub moves_part : {A : Type 0} → Sources A → RuleHead → SymbolKey × ℕ → Bool
moves_part sources head p = is_among sources p.0.source && moves_where sources.was.now sources.is.now head p

-- the keys of some sources for a rule's kind and permits, each once
pub record AreKeysOf (among : ℕ → Bool) (head : RuleHead) (keys : List SymbolKey) : Type 0 where
  pub distinct : IsDistinct is_key keys
  pub are : (k : SymbolKey) → has_key keys k ≡ (among k.source && has_head head k)

-- the mask of a word has those of its targets at which a test holds
abbrev pub HasWord : (ℕ → Bool) → ℕ → ℕ → Type 0
HasWord test word mask = (t : ℕ) → hit word mask t ≡ one_if ((t / 64 == word) && test t)

-- what goes and comes in the words below one
pub record AreMovesBelow (was is : ℕ → Bool) (from : ℕ) (moved : List Moved) : Type 0 where
  pub words : AreMoves moved
  pub below : (i : ℕ) → i < length moved → (move_at moved i).word < from
  pub gone : (t : ℕ) → went moved t ≡ one_if (nat_lt (t / 64) from && (was t && not (is t)))
  pub come : (t : ℕ) → came moved t ≡ one_if (nat_lt (t / 64) from && (is t && not (was t)))
  pub ones : RisesBy (λ t. nat_lt (t / 64) from && differs (was t) (is t)) 0 (ones_of moved)

-- what goes and comes, and how much, from targets that were to those that are
pub record AreMovesOf (was is : ℕ → Bool) (moved : List Moved) : Type 0 where
  pub words : AreMoves moved
  pub gone : (t : ℕ) → went moved t ≡ one_if (was t && not (is t))
  pub come : (t : ℕ) → came moved t ≡ one_if (is t && not (was t))
  pub ones : RisesBy (λ t. differs (was t) (is t)) 0 (ones_of moved)
