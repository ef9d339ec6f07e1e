-- The steps from no member to those of a policy.
use Rattle.std.specs.Prelude.{◌≡◌, ℕ, List}
use Rattle.cil_member_rows.specs.Rows.{count_before, count_now, steps_in}
use Rattle.cil_recorded.specs.Recorded.{State}
use Rattle.cil_resolve.specs.Meter.{evaluations_in}
use Rattle.cil_resolve.specs.Resolved.{meaning_in}
use Rattle.cil_resolve.specs.declared.meter.Meter.{Meter}
use Rattle.cil_resolve.specs.declared.resolved.Resolved.{Resolved}
use Rattle.cil_sums.specs.Rises.{RisesWithin, UpTo}
use Rattle.cil_sums.specs.Sums.{sum_below}
use Rattle.cil_member_updates.specs.Evaluated.{IsHeld, IsKept}
use Rattle.cil_member_updates.specs.Passes.{given_by}
use Rattle.cil_member_updates.specs.Places.{set_at}

-- no step is logged
pub record IsSettled (rows : State) : Type 0 where
  pub none : steps_in rows ≡ 0
  pub same : (a t : ℕ) → count_before rows a t ≡ count_now rows a t

-- the counters count what the first set statements give
abbrev pub AreFirst : {A : Type 0} → List (List ℕ) → Resolved A → ℕ → State → Type 0
AreFirst symbols r n rows = (a t : ℕ) → count_now rows a t ≡ sum_below (given_by symbols r a t) n

-- where the set statement at a place may be evaluated, and has to be
abbrev pub MayCount : {A : Type 0} → List (List ℕ) → Resolved A → (j t : ℕ) → Type 0
MayCount symbols r j = IsKept symbols (meaning_in r)

abbrev pub MustCount : {A : Type 0} → List (List ℕ) → Resolved A → (j t : ℕ) → Type 0
MustCount symbols r j = IsHeld symbols (meaning_in r) (set_at r j)

-- So are those at the places below one evaluated.
abbrev pub EvaluatesFirst : {A : Type 0} → List (List ℕ) → Resolved A → ℕ → (before after : Meter) → Type 0
EvaluatesFirst symbols r n before after = RisesWithin (UpTo (MayCount symbols r) n) (UpTo (MustCount symbols r) n) (evaluations_in before) (evaluations_in after)
