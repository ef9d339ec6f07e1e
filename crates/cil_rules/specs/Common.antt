-- The names from elsewhere that this crate's contracts cite most, passed on from one place.
pub use Rattle.cil_accesses.specs.Renumbered.{IsWithin}
pub use Rattle.cil_accesses.specs.Rows.{accesses_in}
pub use Rattle.cil_accesses.specs.View.{at_bit, has_bit}
pub use Rattle.cil_rules.specs.Atoms.{AreNumbered, atom_at, atom_of}
pub use Rattle.cil_rules.specs.NumberedRows.{AreNumberedRows, IsNumberedRow, line_by, numbered_row, row_by, row_of}
pub use Rattle.cil_rules.specs.Rows.{chunk_text, name_text, row_at, row_head, rows_of}
pub use Rattle.cil_specs.specs.Report.{AreAtoms, AreRows, Row, is_listed, row_line}
pub use Rattle.cil_stream.specs.Device.{Gains, GainsFront, HasFailed}
pub use Rattle.cil_text.specs.Image.{rule_kind_of}
pub use Rattle.std.specs.List.{All, flat_map}
pub use Rattle.std.specs.Rc.{rc_value}
