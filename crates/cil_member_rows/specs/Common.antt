-- The names from elsewhere that this crate's contracts cite most, passed on from one place.
pub use Rattle.cil_lines.specs.Line.{IsNextPresent, IsPresence, NonePresent, hit}
pub use Rattle.cil_member_rows.specs.Held.{bits_at, words_of}
pub use Rattle.cil_member_rows.specs.Rows.{IsChange, IsHeld, rows_in}
pub use Rattle.cil_member_rows.specs.Words.{AreSome, IsOutside}
pub use Rattle.cil_recorded.specs.Log.{hit_at}
pub use Rattle.cil_recorded.specs.Recorded.{count_before, count_now, limit_now, lines_in, spare, steps_in}
