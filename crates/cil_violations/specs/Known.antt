-- What is kept of the classes in which rules of permission sets share a permission.
use Rattle.std.specs.Prelude.{◌≡◌, ℕ, List, Some, slice_get}
use Rattle.cil_violations.specs.Index.{set_at}
use Rattle.cil_violations.specs.Rows.{classes_of, rules_in}
use Rattle.cil_violations.specs.declared.known.SharedClasses.{SharedClasses}
use Rattle.cil_violations.specs.declared.search.Search.{Search}

-- all rules of the two sets share a permission in these classes
abbrev pub AreClasses : {A : Type 0} → Search A → SharedClasses A → Type 0
AreClasses s shared = (never allowed : ℕ) → set_at (rules_in s) never ≡ Some shared.never
    → set_at (rules_in s) allowed ≡ Some shared.allowed → shared.classes.items ≡ classes_of s never allowed

-- what stands at a place is of a set of allow rules
abbrev pub IsOfAllowed : {A : Type 0} → List (SharedClasses A) → ℕ → ℕ → Type 0
IsOfAllowed {A} lists allowed place = (shared : SharedClasses A) × (slice_get lists place ≡ Some shared)
    × (shared.allowed ≡ allowed)

-- and of one of neverallow rules
abbrev pub IsOfSets : {A : Type 0} → List (SharedClasses A) → ℕ → ℕ → ℕ → Type 0
IsOfSets {A} lists never allowed place = (shared : SharedClasses A) × (slice_get lists place ≡ Some shared)
    × (shared.never ≡ never) × (shared.allowed ≡ allowed)

-- these classes stand at a place
abbrev pub StandAt : {A : Type 0} → List (SharedClasses A) → List ℕ → ℕ → Type 0
StandAt {A} lists classes place = (shared : SharedClasses A) × (slice_get lists place ≡ Some shared)
    × (shared.classes.items ≡ classes)
