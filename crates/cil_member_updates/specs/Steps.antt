-- The steps from the members of an old policy to those of a new one.
use Rattle.std.specs.Prelude.{◌≡◌, ◌+◌, ℕ, length}
use Rattle.cil_member_rows.specs.Rows.{count_now}
use Rattle.cil_recorded.specs.Recorded.{State}
use Rattle.cil_resolve.specs.Meter.{evaluations_in}
use Rattle.cil_resolve.specs.Sets.{sets_in}
use Rattle.cil_resolve.specs.declared.meter.Meter.{Meter}
use Rattle.cil_sums.specs.Rises.{RisesWithin, UpTo}
use Rattle.cil_sums.specs.Sums.{sum_below}
use Rattle.cil_member_updates.specs.Evaluated.{Comes, Goes, MayGo, MayTurn}
use Rattle.cil_member_updates.specs.Passes.{gave_in, gives_in, gone_in, stayed_in}
use Rattle.cil_member_updates.specs.Policy.{AreCounts}
use Rattle.cil_member_updates.specs.Reading.{new_in, old_in}
use Rattle.cil_member_updates.specs.declared.side.Policies.{Policies}

-- how many set statements the old policy has, and the new one
abbrev pub old_sets : {A : Type 0} → Policies A → ℕ
old_sets p = length (sets_in (old_in p))

abbrev pub new_sets : {A : Type 0} → Policies A → ℕ
new_sets p = length (sets_in (new_in p))

-- counters are those of the one, or of the other
abbrev pub AreOld : {A : Type 0} → Policies A → (ℕ → ℕ → ℕ) → Type 0
AreOld p counts = AreCounts p.symbols.now (old_in p) counts

abbrev pub AreNew : {A : Type 0} → Policies A → (ℕ → ℕ → ℕ) → Type 0
AreNew p counts = AreCounts p.symbols.now (new_in p) counts

-- they are lowered by what the old set statement at a place gave, if it went
abbrev pub IsLowered : {A : Type 0} → Policies A → ℕ → (old new : State) → Type 0
IsLowered p i old new = (a t : ℕ) → count_now new a t + gone_in p a t i ≡ count_now old a t

-- those of the old policy are lowered by what those that went of the first set statements gave
abbrev pub AreLowered : {A : Type 0} → Policies A → ℕ → State → Type 0
AreLowered p n rows = (a t : ℕ) → count_now rows a t + sum_below (gone_in p a t) n ≡ sum_below (gave_in p a t) (old_sets p)

-- they are moved to what the new set statement at a place gives, from what it gave if the old policy has it
abbrev pub IsRenewed : {A : Type 0} → Policies A → ℕ → (old new : State) → Type 0
IsRenewed p j old new = (a t : ℕ) → count_now new a t + stayed_in p a t j ≡ count_now old a t + gives_in p a t j

-- they count what the set statements gave that stay
abbrev pub AreStayed : {A : Type 0} → Policies A → State → Type 0
AreStayed p rows = (a t : ℕ) → count_now rows a t ≡ sum_below (stayed_in p a t) (new_sets p)

-- these are moved so at the first set statements
abbrev pub AreRenewed : {A : Type 0} → Policies A → ℕ → State → Type 0
AreRenewed p n rows = (a t : ℕ)
    → count_now rows a t + sum_below (stayed_in p a t) n ≡ sum_below (gives_in p a t) n + sum_below (stayed_in p a t) (new_sets p)

-- where a set statement of the old policy may be evaluated and has to be, and where one of the new policy
abbrev pub MayGoIn : {A : Type 0} → Policies A → (i t : ℕ) → Type 0
MayGoIn p = MayGo p.symbols.now (old_in p) p.matching.now

abbrev pub GoesIn : {A : Type 0} → Policies A → (i t : ℕ) → Type 0
GoesIn p = Goes p.symbols.now (old_in p) p.matching.now

abbrev pub MayTurnIn : {A : Type 0} → Policies A → (j t : ℕ) → Type 0
MayTurnIn p = MayTurn p.symbols.now (old_in p) (new_in p) p.matching.now

abbrev pub ComesIn : {A : Type 0} → Policies A → (j t : ℕ) → Type 0
ComesIn p = Comes p.symbols.now (old_in p) (new_in p) p.matching.now

-- So is the set statement at a place of the old policy evaluated, if it goes, and that at a place of the new policy.
abbrev pub EvaluatesGoneAt : {A : Type 0} → Policies A → ℕ → (before after : Meter) → Type 0
EvaluatesGoneAt p i before after = RisesWithin (MayGoIn p i) (GoesIn p i) (evaluations_in before) (evaluations_in after)

abbrev pub EvaluatesNewAt : {A : Type 0} → Policies A → ℕ → (before after : Meter) → Type 0
EvaluatesNewAt p j before after = RisesWithin (MayTurnIn p j) (ComesIn p j) (evaluations_in before) (evaluations_in after)

-- and those at the places below one
abbrev pub EvaluatesGone : {A : Type 0} → Policies A → ℕ → (before after : Meter) → Type 0
EvaluatesGone p n before after = RisesWithin (UpTo (MayGoIn p) n) (UpTo (GoesIn p) n) (evaluations_in before) (evaluations_in after)

abbrev pub EvaluatesNew : {A : Type 0} → Policies A → ℕ → (before after : Meter) → Type 0
EvaluatesNew p n before after = RisesWithin (UpTo (MayTurnIn p) n) (UpTo (ComesIn p) n) (evaluations_in before) (evaluations_in after)
