-- The changes between two tables, told by how many they are.
use Rattle.std.specs.Prelude.{◌≡◌, length}
use Rattle.cil_specs.specs.Report.{Changes}
use Rattle.cil_symbol_changes.specs.declared.counted_changes.ChangeCounts.{ChangeCounts}

-- The numbers are those of changes.
pub record AreCountsOf (changes : Changes) (counts : ChangeCounts) : Type 0 where
  pub added : counts.added ≡ length changes.added
  pub removed : counts.removed ≡ length changes.removed

-- There are such changes, and these are their numbers.
pub record CountsSome (Those : Changes → Type 0) (counts : ChangeCounts) : Type 0 where
  pub changes : Changes
  pub those : Those changes
  pub are_counts : AreCountsOf changes counts
