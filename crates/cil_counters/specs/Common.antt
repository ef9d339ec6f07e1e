-- The names from elsewhere that this crate's contracts cite most, passed on from one place.
pub use Rattle.cil_counters.specs.ChangedMembers.{AreChangedMembers, AreNamed, has_turned, pairs_of}
pub use Rattle.cil_counters.specs.Counted.{AreBounded, AreSettled, AreSymbolsOf, AreTakenBack, HasFewNames, HasNames, IsNow, WasBefore, atom_with, count_with, had_named, has_named, steps_in, symbols_now}
pub use Rattle.cil_member_rows.specs.Rows.{count_before, count_now, rows_in}
pub use Rattle.cil_parse.specs.Lexicon.{AreNumbersOf}
pub use Rattle.cil_resolve.specs.Resolved.{meaning_in}
pub use Rattle.cil_resolve.specs.Sets.{name_in, sets_in}
pub use Rattle.cil_specs.specs.Meaning.{count_of, is_in_table}
pub use Rattle.cil_specs.specs.Members.{is_member}
pub use Rattle.cil_specs.specs.Sets.{differ}
pub use Rattle.cil_specs.specs.Violations.{AreViolations}
pub use Rattle.std.specs.Rc.{rc_value}
