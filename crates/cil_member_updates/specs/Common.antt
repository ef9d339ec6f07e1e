-- The names from elsewhere that this crate's contracts cite most, passed on from one place.
pub use Rattle.cil_member_rows.specs.Rows.{count_before, count_now, rows_in}
pub use Rattle.cil_member_rows.specs.Words.{IsOutside}
pub use Rattle.cil_member_updates.specs.Bits.{AreHeld, Cover, CoverAmong, is_set}
pub use Rattle.cil_member_updates.specs.Evaluated.{is_asked}
pub use Rattle.cil_member_updates.specs.Loading.{EvaluatesFirst, IsSettled}
pub use Rattle.cil_member_updates.specs.Moved.{AreAtLeast, AreMoved, IsAtLeast, IsMoved}
pub use Rattle.cil_member_updates.specs.Policy.{AreCounts, AreKept, IsNumbering, IsSide}
pub use Rattle.cil_member_updates.specs.Reading.{AreNamesTurned, AreNamesUnchanged, ArePolicies, AreSetsMatched, AreVisits, CoversNames, CoversStayed, EvaluatesOnce, EvaluatesSet, EvaluatesWord, HasStayed, HoldsTypes, IsNameIn, IsNameTurned, IsNameUnchanged, IsRead, KnowsTypes, MayHold, MovesSet, MovesWord, Reads, Stays, TellsMember, held_by, is_given, lowered_by, name_holds, named_by, raised_by, set_of, was_given}
pub use Rattle.cil_member_updates.specs.Steps.{AreLowered, AreNew, AreOld, AreStayed, EvaluatesGone, EvaluatesGoneAt, EvaluatesNew, EvaluatesNewAt, IsLowered, IsRenewed, new_sets, old_sets}
pub use Rattle.cil_resolve.specs.Meter.{adjustments_in, evaluations_in}
pub use Rattle.cil_resolve.specs.Resolved.{meaning_in}
pub use Rattle.cil_resolve.specs.Sets.{sets_in}
