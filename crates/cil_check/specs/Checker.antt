-- What the faults of a bound policy are found by.
use Rattle.std.specs.Prelude.{ℕ, ◌<◌, ◌^◌, length, List, map, filter, drop, Option, slice_get}
use Rattle.cil_specs.specs.Names.{Word}
use Rattle.cil_specs.specs.Joined.{Placed}
use Rattle.cil_specs.specs.Lookup.{Table}
use Rattle.cil_specs.specs.PolicyFault.{is_unfound}
use Rattle.cil_check.specs.Bound.{IsOf}
use Rattle.cil_check.specs.Associations.{HasFirsts}
use Rattle.cil_check.specs.Inherited.{HasInherited}
use Rattle.cil_check.specs.Permissions.{HaveListed, HaveWords}
use Rattle.cil_check.specs.declared.checker.Checker.{Checker}
use Rattle.cil_check.specs.declared.firsts.Association.TheVariants.{Actual, Common}

-- The policy is the bound one; the first statements that give something are noted, and what classes and commons list and are given.
pub record IsNoted {A : Type 0} (checker : Checker A) (policy : List Placed) : Type 0 where
  pub is : IsOf checker.bound policy
  pub has_actuals : HasFirsts Actual policy checker.actuals
  pub has_commons : HasFirsts Common policy checker.commons
  pub few : length policy < 2 ^ 32
  pub listed : HaveListed checker.bound.policy.now.names policy checker.permissions.listed.keys
  pub words : HaveWords checker.bound.policy.now.names policy checker.permissions.words.0
  pub inherited : HasInherited policy checker.inherited

-- the first reference that leads nowhere, from an index on
abbrev pub first_unfound : List Placed → List (List ℕ) → ℕ → List (Table × Word) → Option Word
first_unfound policy namespace k references = slice_get (map (λ r. r.1) (filter (is_unfound policy namespace) (drop k references))) 0
