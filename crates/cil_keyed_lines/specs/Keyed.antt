-- Lines of counters that keys name.
use Rattle.std.specs.Prelude.{◌≡◌, ◌≢◌, ◌+◌, ◌<◌, ◌≤◌, ◌==◌, ◌&&◌, ◌++◌, ◌∷◌, ℕ, Bool, List, [], length, position, slice_get, slice_index_or, sum_by, Contains, Some, if◌then◌else◌}
use Rattle.std.specs.List.{list_any, position_or_len, All, IsDistinct}
use Rattle.std.specs.Option.{option_map_or}
use Rattle.cil_specs.specs.Rule.{kind_index}
use Rattle.cil_text.specs.Image.{rule_kind_of}
use Rattle.cil_text.specs.declared.statement.RuleKind.{RuleKind}
use Rattle.cil_keyed_lines.specs.declared.symbol_key.SymbolKey.{SymbolKey}
use Rattle.cil_recorded.specs.Recorded as recorded
use Rattle.cil_recorded.specs.Recorded.{State, lines_in, HasCount}
use Rattle.cil_keyed_lines.specs.Names.{Naming, name_before, name_now, one_if, times, AreLogged}
use Rattle.cil_keyed_lines.specs.declared.named.Named.{Named}

-- whether two kinds of rules are the same
abbrev pub is_kind : RuleKind → RuleKind → Bool
is_kind kind other = kind_index (rule_kind_of kind) == kind_index (rule_kind_of other)

-- whether two keys are the same
abbrev pub is_key : SymbolKey → SymbolKey → Bool
is_key key other = is_kind key.kind other.kind
    && ((key.source == other.source) && (key.class == other.class && key.permission == other.permission))

-- the keys with one that stands last if it is new
abbrev pub with_key : List SymbolKey → SymbolKey → List SymbolKey
with_key keys key = if list_any (is_key key) keys then keys else keys ++ key ∷ []

-- the counter of a target in the line of a key; 0 where the key has none
unfoldable pub count_by : (ℕ → ℕ → ℕ) → List SymbolKey → SymbolKey → ℕ → ℕ
count_by counts keys key t = option_map_or (λ i. counts i t) (position (is_key key) keys) 0

-- each of these keys is one of others
abbrev pub AreAmong : List SymbolKey → List SymbolKey → Type 0
AreAmong keys others = (key : SymbolKey) → Contains keys key → Contains others key

-- the keys by their places, the lines that the places name, and the counters of these
pub record Keyed : Type 0 where
  pub keys : List SymbolKey
  pub names : Naming
  pub lines : State

-- the counter of a target in the line that a place names, now and before the steps
abbrev pub now_in : Naming → State → ℕ → ℕ → ℕ
now_in n s p = recorded.count_now s (name_now n p)

abbrev pub before_in : Naming → State → ℕ → ℕ → ℕ
before_in n s p = recorded.count_before s (name_before n p)

abbrev pub now_at : Keyed → ℕ → ℕ → ℕ
now_at s = now_in s.names s.lines

abbrev pub before_at : Keyed → ℕ → ℕ → ℕ
before_at s = before_in s.names s.lines

-- the counters of a key, now and before the steps; 0 where the key names no line
abbrev pub count_now : Keyed → SymbolKey → ℕ → ℕ
count_now s = count_by (now_at s) s.keys

abbrev pub count_before : Keyed → SymbolKey → ℕ → ℕ
count_before s = count_by (before_at s) s.keys

-- the number of steps since the last settling, and of the keys that changed their line
abbrev pub steps_in : Keyed → ℕ
steps_in s = length s.names.log + recorded.steps_in s.lines

-- Each place names a line that there is, or line 0, which has no counter above 0.
pub record AreLines (n : Naming) (s : State) : Type 0 where
  pub lines : lines_in s ≤ n.lines
  pub within : (p : ℕ) → name_now n p ≢ 0 → name_now n p < lines_in s
  pub past : (p : ℕ) → name_before n p ≢ 0 → name_before n p < lines_in s
  pub nothing : (t : ℕ) → recorded.count_now s 0 t ≡ 0
  pub nothing_before : (t : ℕ) → recorded.count_before s 0 t ≡ 0

-- each line but 0 that a place names has a counter above 0
abbrev pub AreCounted : Naming → State → Type 0
AreCounted n s = (p : ℕ) → name_now n p ≢ 0 → HasCount s (name_now n p)

-- Before the steps there were so many places and so many lines, and each of these places named a line with a counter
-- above 0.
pub record AreKept (n : Naming) (s : State) (places lines : ℕ) : Type 0 where
  pub came : (p : ℕ) → places ≤ p → name_before n p ≡ 0
  pub within : (p : ℕ) → name_before n p ≢ 0 → name_before n p < lines
  pub there : lines ≤ lines_in s
  pub counted : (p : ℕ) → p < places → (t : ℕ) × (0 < before_in n s p t)

-- the keys, and the lines that their places name
pub record AreKeyed (keys : List SymbolKey) (n : Naming) (s : State) (places lines : ℕ) : Type 0 where
  pub distinct : IsDistinct is_key keys
  pub len : length n.named ≡ length keys
  pub there : places ≤ length keys
  pub lined : AreLines n s
  pub counted : AreCounted n s
  pub logged : AreLogged n
  pub kept : AreKept n s places lines

-- a place with its line, from a list
abbrev pub named_at : List Named → ℕ → Named
named_at group i = slice_index_or group i (record { line = 0; place = 0 })

-- the keys of the places, where no change is logged
pub record ArePaired (keys : List SymbolKey) (n : Naming) : Type 0 where
  pub distinct : IsDistinct is_key keys
  pub len : length n.named ≡ length keys
  pub settled : n.log ≡ []

-- Keys that name no line are taken out: the others name theirs.
pub record AreTaken (keys : List SymbolKey) (n : Naming) (keys' : List SymbolKey) (n' : Naming) : Type 0 where
  pub among : AreAmong keys' keys
  pub lines : n'.lines ≡ n.lines
  pub from : (p : ℕ) → name_now n' p ≢ 0 → (q : ℕ) × (name_now n q ≡ name_now n' p)
  pub counts : (f : ℕ → ℕ → ℕ) → ((t : ℕ) → f 0 t ≡ 0) → (k : SymbolKey) (t : ℕ)
      → count_by (λ p. f (name_now n' p)) keys' k t ≡ count_by (λ p. f (name_now n p)) keys k t

-- a place of so many, which names its line
abbrev pub Names : Naming → Named → Type 0
Names n x = (x.place < length n.named) × (name_now n x.place ≡ x.line)

-- places that name these lines, each once
pub record AreNamed (group : List Named) (n : Naming) : Type 0 where
  pub named : All (Names n) group
  pub once : (p : ℕ) → times group p ≤ 1

-- all of one line
abbrev pub AreOf : ℕ → List Named → Type 0
AreOf line group = All (λ x. x.line ≡ line) group

-- whether a key is one of a list
abbrev pub has_key : List SymbolKey → SymbolKey → Bool
has_key keys k = list_any (is_key k) keys

-- how often it is there
abbrev pub listed : List SymbolKey → SymbolKey → ℕ
listed keys k = sum_by (λ x. one_if (is_key k x)) keys

-- the place of a key, or how many there are where it is none of them
abbrev pub index_of : List SymbolKey → SymbolKey → ℕ
index_of keys k = position_or_len (is_key k) keys

-- so much for each key of a list, and nothing for others
unfoldable pub of_keys : List SymbolKey → (ℕ → ℕ) → SymbolKey → ℕ → ℕ
of_keys keys amount k t = if has_key keys k then amount t else 0

-- the counters move from one amount to another
abbrev pub AreMoved : Keyed → Keyed → (was is : SymbolKey → ℕ → ℕ) → Type 0
AreMoved old new was is = (k : SymbolKey) (t : ℕ) → count_now new k t + was k t ≡ count_now old k t + is k t

-- no counter rises by more than this
abbrev pub RiseAtMost : Keyed → Keyed → (SymbolKey → ℕ → ℕ) → Type 0
RiseAtMost old new most = (k : SymbolKey) (t : ℕ) → count_now new k t ≤ count_now old k t + most k t

-- no counter rises
abbrev pub NoneRises : Keyed → Keyed → Type 0
NoneRises old new = (k : SymbolKey) (t : ℕ) → count_now new k t ≤ count_now old k t

-- each counter stays
abbrev pub Stays : Keyed → Keyed → Type 0
Stays old new = (k : SymbolKey) (t : ℕ) → count_now new k t ≡ count_now old k t

-- each counter as it was before the steps stays
abbrev pub StaysBefore : Keyed → Keyed → Type 0
StaysBefore old new = (k : SymbolKey) (t : ℕ) → count_before new k t ≡ count_before old k t

-- each key has a counter above 0
abbrev pub AllCounted : Keyed → Type 0
AllCounted s = (i : ℕ) → i < length s.keys → (t : ℕ) × (0 < now_at s i t)

-- a place is that of a key
pub record IsLineOf (s : Keyed) (i : ℕ) (key : SymbolKey) : Type 0 where
  pub at : slice_get s.keys i ≡ Some key
  pub now : (t : ℕ) → now_at s i t ≡ count_now s key t
  pub before : (t : ℕ) → before_at s i t ≡ count_before s key t

-- the place is behind those of all keys
pub record IsNoLine (s : Keyed) (i : ℕ) : Type 0 where
  pub behind : length s.keys ≤ i
  pub now : (t : ℕ) → now_at s i t ≡ 0
  pub before : (t : ℕ) → before_at s i t ≡ 0

-- No two keys are the same, and no counter of a place behind theirs is above 0.
pub record AreApart (s : Keyed) : Type 0 where
  pub distinct : IsDistinct is_key s.keys
  pub now : (i t : ℕ) → length s.keys ≤ i → now_at s i t ≡ 0
  pub before : (i t : ℕ) → length s.keys ≤ i → before_at s i t ≡ 0

-- no counter of the key is above 0
abbrev pub NoneCounted : Keyed → SymbolKey → Type 0
NoneCounted s key = (t : ℕ) → (count_now s key t ≡ 0) × (count_before s key t ≡ 0)
