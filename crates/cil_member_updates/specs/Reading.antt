-- Set statements of a policy, and of two.
use Rattle.std.specs.Prelude.{◌≡◌, ◌<◌, ◌+◌, ◌-◌, ◌^◌, ℕ, Bool, IfSome, IsTrue, List, Some, length, min, nat_lt, slice_get, slice_index}
use Rattle.cil_expression.specs.declared.expression.Element as numbered
use Rattle.cil_matching.specs.Matching.{AreMatched, Matched}
use Rattle.cil_member_rows.specs.Rows.{count_before, count_now, rows_in}
use Rattle.cil_member_rows.specs.Words.{IsOutside}
use Rattle.cil_recorded.specs.Recorded.{State}
use Rattle.cil_resolve.specs.Below.{is_element_below}
use Rattle.cil_resolve.specs.Meter.{adjustments_in, evaluations_in}
use Rattle.cil_resolve.specs.Numbers.{element_of}
use Rattle.cil_resolve.specs.Resolved.{meaning_in}
use Rattle.cil_resolve.specs.Sets.{sets_in}
use Rattle.cil_resolve.specs.declared.meter.Meter.{Meter}
use Rattle.cil_resolve.specs.declared.resolved.Resolved.{Resolved}
use Rattle.cil_specs.specs.Rule.{Element, IsSameSet, SetStatement}
use Rattle.cil_specs.specs.Sets.{differ}
use Rattle.cil_sums.specs.Rises.{RisesWithin}
use Rattle.cil_member_updates.specs.Bits.{Cover, is_set}
use Rattle.cil_member_updates.specs.Evaluated.{AreTurnedAt, AreUnsettledAt, InWord, IsHeld, IsKept, IsMovedAt, IsTurnedAt, IsUnsettled}
use Rattle.cil_member_updates.specs.Given.{element_holds, holds, IsUnchanged, Tell}
use Rattle.cil_member_updates.specs.Moved.{nothing}
use Rattle.cil_member_updates.specs.Places.{set_at}
use Rattle.cil_member_updates.specs.Policy.{AreUnchanged, CoverNames, IsSide, counts_at, given}
use Rattle.cil_member_updates.specs.declared.side.Policies.{Policies}
use Rattle.cil_member_updates.specs.declared.side.Reading.{Reading}
use Rattle.cil_member_updates.specs.declared.side.Side.{Side}
use Rattle.cil_member_updates.specs.declared.side.Stayed.{Stayed}
use Rattle.cil_member_updates.specs.declared.when.When.{When}
use Rattle.cil_member_updates.specs.declared.when.When.TheVariants.{Before, Now}

-- the set statement
abbrev pub set_of : {A : Type 0} → Reading A → SetStatement
set_of r = set_at r.side.now.resolved.now r.place

-- whether it holds the type of a symbol
abbrev pub held_by : {A : Type 0} → Reading A → ℕ → Bool
held_by r = holds r.symbols.now (meaning_in r.side.now.resolved.now) (set_of r)

-- what it gives
abbrev pub given_of : {A : Type 0} → Reading A → ℕ → ℕ → ℕ
given_of r = given r.symbols.now r.side.now.resolved.now r.place

-- a name of its expression, and that the policy has it
abbrev pub named_by : {A : Type 0} → Reading A → numbered.Element → Element
named_by r element = element_of r.side.now.resolved.now.names.items element

abbrev pub IsNameIn : {A : Type 0} → Reading A → numbered.Element → Type 0
IsNameIn r element = IsTrue (is_element_below (length r.side.now.resolved.now.names.items) element)

-- whether the name holds the type of a symbol
abbrev pub name_holds : {A : Type 0} → Reading A → numbered.Element → ℕ → Bool
name_holds r element = element_holds r.symbols.now (meaning_in r.side.now.resolved.now) (named_by r element)

-- each of its names fails where the bit isn't set
abbrev pub CoversNames : {A : Type 0} → Reading A → ℕ → ℕ → Type 0
CoversNames r word bits = CoverNames r.symbols.now r.side.now.resolved.now r.place word bits

-- an answer tells who is a member of an attribute that has a number in the policy
abbrev pub TellsMember : {A : Type 0} → Reading A → State → (attribute t : ℕ) → Bool → Type 0
TellsMember r rows attribute t answer = (a : ℕ) → slice_get r.side.now.numbering.now.symbols attribute ≡ Some a
    → answer ≡ nat_lt 0 (counts_at r.when rows a t)

-- the attribute of a name has the same members before and now where the bit isn't set, and others where it is
abbrev pub IsNameUnchanged : {A : Type 0} → Reading A → State → numbered.Element → ℕ → ℕ → Type 0
IsNameUnchanged r rows element word bits = IsUnchanged r.symbols.now (count_before rows) (count_now rows) (named_by r element) word bits

abbrev pub IsNameTurned : {A : Type 0} → Reading A → State → numbered.Element → ℕ → ℕ → Type 0
IsNameTurned r rows element word bits = IsTurnedAt r.symbols.now (count_before rows) (count_now rows) (named_by r element) word bits

-- so has each attribute that it mentions, and one of them has others
abbrev pub AreNamesUnchanged : {A : Type 0} → Reading A → State → ℕ → ℕ → Type 0
AreNamesUnchanged r rows word bits = AreUnchanged r.symbols.now (count_before rows) (count_now rows) r.side.now.resolved.now r.place word bits

abbrev pub AreNamesTurned : {A : Type 0} → Reading A → State → ℕ → ℕ → Type 0
AreNamesTurned r rows word bits = AreTurnedAt r.symbols.now (count_before rows) (count_now rows) r.side.now.resolved.now r.place word bits

-- a kept type, and one that it holds
abbrev pub MayHold : {A : Type 0} → Reading A → ℕ → Type 0
MayHold r = IsKept r.symbols.now (meaning_in r.side.now.resolved.now)

abbrev pub MustHold : {A : Type 0} → Reading A → ℕ → Type 0
MustHold r = IsHeld r.symbols.now (meaning_in r.side.now.resolved.now) (set_of r)

-- The bits of words tell of each kept type whether it holds it.
abbrev pub HoldsTypes : {A : Type 0} → Reading A → List ℕ → Type 0
HoldsTypes r words = (t : ℕ) → MayHold r t → is_set words t ≡ held_by r t

-- so do those that are known, if any are
abbrev pub KnowsTypes : {A : Type 0} → Reading A → Type 0
KnowsTypes r = IfSome r.held (λ words. HoldsTypes r words.now)

-- it is evaluated once
abbrev pub EvaluatesOnce : (before after : Meter) → Type 0
EvaluatesOnce before after = evaluations_in after ≡ min (evaluations_in before + 1) (2 ^ 128 - 1)

-- It is evaluated at types of a word: at kept types alone, and at each that it holds.
abbrev pub EvaluatesWord : {A : Type 0} → Reading A → ℕ → (before after : Meter) → Type 0
EvaluatesWord r word before after = RisesWithin (InWord word (MayHold r)) (InWord word (MustHold r)) (evaluations_in before) (evaluations_in after)

-- at types of all words
abbrev pub EvaluatesSet : {A : Type 0} → Reading A → (before after : Meter) → Type 0
EvaluatesSet r before after = RisesWithin (MayHold r) (MustHold r) (evaluations_in before) (evaluations_in after)

-- The set statement at a place of a policy, and counters above 0 that tell the members of each attribute that it mentions.
pub record IsRead {A : Type 0} (symbols : List (List ℕ)) (p : Side A) (place : ℕ) (counts : ℕ → ℕ → ℕ) : Type 0 where
  pub side : IsSide symbols p
  pub within : place < length (sets_in p.resolved.now)
  pub tell : Tell symbols (meaning_in p.resolved.now) (set_at p.resolved.now place) counts

abbrev pub Reads : {A : Type 0} → Reading A → State → Type 0
Reads r rows = IsRead r.symbols.now r.side.now r.place (counts_at r.when rows)

-- what the counters are lowered by: what it gives, if it is read as it was
abbrev pub lowered : When → (ℕ → ℕ → ℕ) → ℕ → ℕ → ℕ
lowered Before gives = gives
lowered Now gives = nothing

-- what they are raised by: what it gives, if it is read as it is now
abbrev pub raised : When → (ℕ → ℕ → ℕ) → ℕ → ℕ → ℕ
raised Before gives = nothing
raised Now gives = gives

-- the same by the set statement that is read
abbrev pub lowered_by : {A : Type 0} → Reading A → ℕ → ℕ → ℕ
lowered_by r = lowered r.when (given_of r)

abbrev pub raised_by : {A : Type 0} → Reading A → ℕ → ℕ → ℕ
raised_by r = raised r.when (given_of r)

-- What stays while counters move: the counters before the steps, how many rows there are, and the adjustments.
pub record Stays (old new : State) (before after : Meter) : Type 0 where
  pub counts : (a t : ℕ) → count_before new a t ≡ count_before old a t
  pub rows : rows_in new ≡ rows_in old
  pub adjustments : adjustments_in after ≡ adjustments_in before

-- ---- two policies

-- the set statements of both are matched
abbrev pub AreSetsMatched : {A : Type 0} → Side A → Side A → Matched → Type 0
AreSetsMatched old new m = AreMatched IsSameSet (sets_in old.resolved.now) (sets_in new.resolved.now) m

pub record ArePolicies {A : Type 0} (p : Policies A) : Type 0 where
  pub old : IsSide p.symbols.now p.old.now
  pub new : IsSide p.symbols.now p.new.now
  pub matched : AreSetsMatched p.old.now p.new.now p.matching.now
  pub alike : (w : ℕ) → IsOutside p.unlike w → slice_index p.old.now.kept.now w ≡ slice_index p.new.now.kept.now w

abbrev pub old_in : {A : Type 0} → Policies A → Resolved A
old_in p = p.old.now.resolved.now

abbrev pub new_in : {A : Type 0} → Policies A → Resolved A
new_in p = p.new.now.resolved.now

-- a set statement of both, each read by its own policy's members
pub record HasStayed {A : Type 0} (s : Stayed A) (rows : State) : Type 0 where
  pub was : IsRead s.policies.now.symbols.now s.policies.now.old.now s.i (count_before rows)
  pub is : IsRead s.policies.now.symbols.now s.policies.now.new.now s.j (count_now rows)
  pub same : IsSameSet (set_at (old_in s.policies.now) s.i) (set_at (new_in s.policies.now) s.j)

-- whether it holds a type in the one policy, and in the other
abbrev pub was_held : {A : Type 0} → Stayed A → ℕ → Bool
was_held s = holds s.policies.now.symbols.now (meaning_in (old_in s.policies.now)) (set_at (old_in s.policies.now) s.i)

abbrev pub is_held : {A : Type 0} → Stayed A → ℕ → Bool
is_held s = holds s.policies.now.symbols.now (meaning_in (new_in s.policies.now)) (set_at (new_in s.policies.now) s.j)

-- what it gave, and gives
abbrev pub was_given : {A : Type 0} → Stayed A → ℕ → ℕ → ℕ
was_given s = given s.policies.now.symbols.now (old_in s.policies.now) s.i

abbrev pub is_given : {A : Type 0} → Stayed A → ℕ → ℕ → ℕ
is_given s = given s.policies.now.symbols.now (new_in s.policies.now) s.j

-- bits without which it holds in both policies what it holds in one
abbrev pub CoversStayed : {A : Type 0} → Stayed A → ℕ → ℕ → Type 0
CoversStayed s word bits = Cover (λ t. differ (was_held s t) (is_held s t)) word bits

-- and which stand at unsettled types alone
pub record AreVisits {A : Type 0} (s : Stayed A) (word bits : ℕ) : Type 0 where
  pub cover : CoversStayed s word bits
  pub unsettled : AreUnsettledAt s.policies.now.symbols.now (meaning_in (old_in s.policies.now)) (meaning_in (new_in s.policies.now)) (set_at (new_in s.policies.now) s.j) word bits

-- an unsettled type, and one that it holds in one of the two policies alone
abbrev pub MayMove : {A : Type 0} → Stayed A → ℕ → Type 0
MayMove s = IsUnsettled s.policies.now.symbols.now (meaning_in (old_in s.policies.now)) (meaning_in (new_in s.policies.now)) (set_at (new_in s.policies.now) s.j)

abbrev pub MustMove : {A : Type 0} → Stayed A → ℕ → Type 0
MustMove s = IsMovedAt s.policies.now.symbols.now (meaning_in (old_in s.policies.now)) (set_at (old_in s.policies.now) s.i) (meaning_in (new_in s.policies.now)) (set_at (new_in s.policies.now) s.j)

-- It is evaluated at types of a word: at unsettled types alone, and at each that it holds in one of the two alone.
abbrev pub MovesWord : {A : Type 0} → Stayed A → ℕ → (before after : Meter) → Type 0
MovesWord s word before after = RisesWithin (InWord word (MayMove s)) (InWord word (MustMove s)) (evaluations_in before) (evaluations_in after)

-- at types of all words
abbrev pub MovesSet : {A : Type 0} → Stayed A → (before after : Meter) → Type 0
MovesSet s before after = RisesWithin (MayMove s) (MustMove s) (evaluations_in before) (evaluations_in after)
