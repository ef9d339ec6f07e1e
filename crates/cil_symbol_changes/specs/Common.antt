-- The names from elsewhere that this crate's contracts cite most, passed on from one place.
pub use Rattle.cil_accesses.specs.Chunks.{IsGiven, numbers_cmp}
pub use Rattle.cil_accesses.specs.declared.access.AccessNumbers.{AccessNumbers}
pub use Rattle.cil_keyed_lines.specs.Keyed.{IsLineOf, count_before, count_now, now_at}
pub use Rattle.cil_lines.specs.Line.{hit}
pub use Rattle.cil_symbol_changes.specs.Counts.{AreCounted, AreSoMany, came_at, has_come, has_risen, present_at, went_at}
pub use Rattle.cil_symbol_changes.specs.Gained.{AreGained, AreKept, AreKnown, AreKnownIn, IsIn, IsShort, IsTo, chunk_by}
pub use Rattle.cil_symbol_changes.specs.Numbered.{ArePresentNumbered, IsNew, IsPresent, is_listed, listed}
pub use Rattle.cil_symbol_changes.specs.SourceOrder.{AreAppeared, AreListedPlaces, AreParts, HasAppeared, IsAmong, IsAt, IsAtWord, IsListedIn}
pub use Rattle.std.specs.List.{All}
pub use Rattle.std.specs.List.Sorted.{IsStrictlySortedBy}
