-- How much is counted for an edit from one policy to another.
use Rattle.std.specs.Prelude.{◌+◌, ◌*◌, ◌-◌, ◌≤◌, ◌^◌, ℕ, List, length, min}
use Rattle.cil_specs.specs.Meaning.{Meaning}
use Rattle.cil_specs.specs.Report.{Changes}
use Rattle.cil_specs.specs.Rule.{Rule, Atom, SetStatement}
use Rattle.cil_delta_specs.specs.Dirty.{AreDirtyPairs, AreGained, AreDirtyGives}

-- a count that rises by some; it stays at the greatest u128
abbrev pub raised : ℕ → ℕ → ℕ
raised count some = min (count + some) (2 ^ 128 - 1)

-- The evaluations of set statements rise by at most two for each dirty pair, and at least by one for each member gained.
pub record EvaluatesFew (old new : Meaning) (before after : ℕ) : Type 0 where
  pub pairs : List (SetStatement × List ℕ)
  pub dirty : AreDirtyPairs old new pairs
  pub at_most : after ≤ before + 2 * length pairs
  pub at_least : (gained : List (List ℕ × List ℕ)) → AreGained old new gained → raised before (length gained) ≤ after

-- The adjustments of counters rise by at most one for each access that a rule gives in one policy alone, and at least by one for each
-- access that came or went.
pub record AdjustsFew (old new : Meaning) (changes : Changes) (before after : ℕ) : Type 0 where
  pub pairs : List (Rule × Atom)
  pub dirty : AreDirtyGives old new pairs
  pub at_most : after ≤ before + length pairs
  pub at_least : raised before (length changes.added + length changes.removed) ≤ after
