-- What a rule gives, by symbols.
use Rattle.std.specs.Prelude.{◌≡◌, ◌≤◌, ◌+◌, ◌-◌, ◌*◌, ◌^◌, ◌/◌, ◌&&◌, ◌==◌, ◌<◌, ℕ, Bool, true, false, MatchOption, Option, cond, nat_lt}
use Rattle.std.specs.Int.{bit_at}
use Rattle.cil_lines.specs.Line.{Counters, count_of}
use Rattle.cil_keyed_lines.specs.Keyed.{is_kind}
use Rattle.cil_keyed_lines.specs.declared.symbol_key.SymbolKey.{SymbolKey}
use Rattle.cil_text.specs.declared.statement.RuleKind.{RuleKind}
use Rattle.cil_rule_shifts.specs.Permits.{has_permit, AreInOrder}
use Rattle.cil_rule_shifts.specs.declared.grant.Grant.{Grant}
use Rattle.cil_rule_shifts.specs.declared.head.RuleHead.{RuleHead}
use Rattle.cil_rule_shifts.specs.declared.targets.Targets.{Targets}
use Rattle.cil_rule_shifts.specs.declared.targets.Targets.TheVariants.{Nothing, Itself, These}
use Rattle.cil_rule_shifts.specs.declared.reach.Reach.{Reach}
use Rattle.cil_rule_shifts.specs.declared.types.Types.{Types}
use Rattle.cil_rule_shifts.specs.declared.types.Types.TheVariants.{One, Many}

-- 1 where it is true
abbrev pub one_if : Bool → ℕ
one_if b = cond b 1 0

-- whether the counter of a symbol is above 0
unfoldable pub is_present : Counters → ℕ → Bool
is_present counters s = nat_lt 0 (count_of counters s)

-- whether a type is one of some
unfoldable pub has_type : {A : Type 0} → Types A → ℕ → Bool
has_type (One ty) t = ty == t
has_type (Many line) t = is_present line t

-- whether a source has a target
unfoldable pub takes : {A : Type 0} → Targets A → ℕ → ℕ → Bool
takes Nothing s t = false
takes Itself s t = s == t
takes (These types) s t = has_type types t

-- whether a symbol is one of the sources
abbrev pub has_source : {A : Type 0} → Reach A → ℕ → Bool
has_source reach s = has_type reach.sources s

-- whether a source of a rule has a target
abbrev pub reaches : {A : Type 0} → Reach A → ℕ → ℕ → Bool
reaches reach s t = has_source reach s && takes reach.targets s t

-- whether a key is of a kind and has one of some permits
abbrev pub has_head : RuleHead → SymbolKey → Bool
has_head head key = is_kind head.kind key.kind && has_permit head.permits.now key.class key.permission

-- whether a rule gives an access
abbrev pub gives : {A : Type 0} → Reach A → RuleHead → SymbolKey → ℕ → Bool
gives reach head key t = reaches reach key.source t && has_head head key

-- the same of a pair
abbrev pub gives_at : {A : Type 0} → Reach A → RuleHead → SymbolKey × ℕ → Bool
gives_at reach head p = gives reach head p.0 p.1

-- the kind of a rule, with what it permits in a policy
abbrev pub head_of : {A : Type 0} → RuleKind → Grant A → RuleHead
head_of kind grant = record { kind = kind; permits = grant.permits }

-- whether a rule of a kind gives it by what it reaches and permits in a policy
abbrev pub grants : {A : Type 0} → RuleKind → Grant A → SymbolKey × ℕ → Bool
grants kind grant = gives_at grant.reach.now (head_of kind grant)

-- whether a key is of a source and a rule's kind and permits
abbrev pub is_line : ℕ → RuleHead → SymbolKey → Bool
is_line source head key = (source == key.source) && has_head head key

-- the targets of each source are numbers of the code
abbrev pub AreShort : {A : Type 0} → Targets A → Type 0
AreShort targets = (s t : ℕ) → s < 2 ^ 64 → 2 ^ 64 ≤ t → takes targets s t ≡ false

-- and so are the sources, with one to spare
pub record IsShort {A : Type 0} (reach : Reach A) : Type 0 where
  pub sources : (s : ℕ) → 2 ^ 64 - 1 ≤ s → has_source reach s ≡ false
  pub targets : AreShort reach.targets

-- What a rule reaches are numbers of the code, and its permits stand in their order, each once.
pub record IsGrant {A : Type 0} (grant : Grant A) : Type 0 where
  pub reach : IsShort grant.reach.now
  pub permits : AreInOrder grant.permits.now

-- the first number from one on at which a test holds
pub record IsNext (test : ℕ → Bool) (from next : ℕ) : Type 0 where
  pub from_on : from ≤ next
  pub holds : test next ≡ true
  pub first : (n : ℕ) → from ≤ n → n < next → test n ≡ false

-- it holds at no number from one on
abbrev pub NoneFrom : (ℕ → Bool) → ℕ → Type 0
NoneFrom test from = (n : ℕ) → from ≤ n → test n ≡ false

-- that number, if there is one
abbrev pub IsFirst : (ℕ → Bool) → ℕ → Option ℕ → Type 0
IsFirst test from found = MatchOption found (NoneFrom test from) (IsNext test from)

-- the first word from one on that has a number at which the test holds
pub record IsNextWord (test : ℕ → Bool) (from next : ℕ) : Type 0 where
  pub from_on : from ≤ next
  pub present : (t : ℕ) × (t / 64 ≡ next) × (test t ≡ true)
  pub first : (t : ℕ) → from ≤ t / 64 → t / 64 < next → test t ≡ false

-- it holds at no number of a word from one on
abbrev pub NoneFromWord : (ℕ → Bool) → ℕ → Type 0
NoneFromWord test from = (t : ℕ) → from ≤ t / 64 → test t ≡ false

-- that word, if there is one
abbrev pub IsFirstWord : (ℕ → Bool) → ℕ → Option ℕ → Type 0
IsFirstWord test from found = MatchOption found (NoneFromWord test from) (IsNextWord test from)

-- a word from one on that has a number at which a wider test holds, and before which the test holds at none
pub record AreNoneBefore (test wide : ℕ → Bool) (from next : ℕ) : Type 0 where
  pub from_on : from ≤ next
  pub present : (t : ℕ) × (t / 64 ≡ next) × (wide t ≡ true)
  pub first : (t : ℕ) → from ≤ t / 64 → t / 64 < next → test t ≡ false

-- such a word, or it holds at none
abbrev pub IsMaybeWord : (test wide : ℕ → Bool) → ℕ → Option ℕ → Type 0
IsMaybeWord test wide from found = MatchOption found (NoneFromWord test from) (AreNoneBefore test wide from)

-- the bits of a word of those of its numbers at which the test holds
abbrev pub IsMask : (ℕ → Bool) → ℕ → ℕ → Type 0
IsMask test word mask = (b : ℕ) → b < 64 → bit_at mask b ≡ one_if (test (64 * word + b))
