-- What the statements of permission sets give, set by set.
use Rattle.std.specs.Prelude.{◌≡◌, ◌==◌, ℕ, List, [], map, flat_map, length, slice_get, Contains, Some, Vec, if◌then◌else◌}
use Rattle.std.specs.List.Sorted.{IsStrictlySortedBy}
use Rattle.std.specs.Ordering.{nat_cmp}
use Rattle.std.specs.Rc.{rc_value}
use Rattle.cil_resolve.specs.Numbers.{given_with}
use Rattle.cil_resolve.specs.SetPermissions.{IsOrdered}
use Rattle.cil_resolve.specs.declared.given_sets.GivenSets.{GivenSets}
use Rattle.cil_resolve.specs.declared.numbered.NumberedPermissionSet.{NumberedPermissionSet}
use Rattle.cil_resolve.specs.declared.set_permissions.ClassPermission.{ClassPermission}
use Rattle.cil_resolve.specs.declared.set_permissions.SetPermissions.{SetPermissions}

-- what a statement gives the set of a number
abbrev pub given_to : {A : Type 0} → ℕ → NumberedPermissionSet A → List ClassPermission
given_to n s = if n == s.set then given_with s.permissions else []

-- what the set of a number gives, by its statements
abbrev pub set_gives : {A : Type 0} → List (NumberedPermissionSet A) → ℕ → List ClassPermission
set_gives statements n = flat_map (given_to n) statements

-- Numbers in order, each once: that of each statement's set is among them.
pub record AreSetNumbers {A : Type 0} (statements : List (NumberedPermissionSet A)) (numbers : List ℕ) : Type 0 where
  pub rising : IsStrictlySortedBy nat_cmp numbers
  pub all : (s : NumberedPermissionSet A) → Contains statements s → Contains numbers s.set

-- for each number a list of what its set gives
pub record AreGathered {A : Type 0} (statements : List (NumberedPermissionSet A)) (numbers : List ℕ) (lists : List (Vec ClassPermission A)) : Type 0 where
  pub long : length lists ≡ length numbers
  pub each : (k n : ℕ) (list : Vec ClassPermission A) → slice_get numbers k ≡ Some n → slice_get lists k ≡ Some list → list.items ≡ set_gives statements n

-- the same permissions for each number, in order and each once
pub record ArePutInOrder {A : Type 0} (numbers : List ℕ) (lists : List (Vec ClassPermission A)) (sets : List (SetPermissions A)) : Type 0 where
  pub numbered : map (λ s. s.set) sets ≡ numbers
  pub each : (k : ℕ) (list : Vec ClassPermission A) (s : SetPermissions A) → slice_get lists k ≡ Some list → slice_get sets k ≡ Some s → IsOrdered list.items (rc_value s.given).items

-- Each of these sets gives what its statements give, and each statement's set is among them.
pub record GivesSets {A : Type 0} (statements : List (NumberedPermissionSet A)) (given : GivenSets A) : Type 0 where
  pub numbered : map (λ s. s.set) given.sets.items ≡ given.numbers.items
  pub each : (s : SetPermissions A) → Contains given.sets.items s → IsOrdered (set_gives statements s.set) (rc_value s.given).items
  pub all : (t : NumberedPermissionSet A) → Contains statements t → Contains given.numbers.items t.set
