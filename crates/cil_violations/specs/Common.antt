-- The names from elsewhere that this crate's contracts cite most, passed on from one place.
pub use Rattle.cil_resolve.specs.Resolved.{meaning_in}
pub use Rattle.cil_resolve.specs.SetPermissions.{AreInOrder, permission_cmp}
pub use Rattle.cil_specs.specs.Violations.{AreViolations, violation_line, violations_text}
pub use Rattle.cil_stream.specs.Device.{Gains, GainsFront, HasFailed}
pub use Rattle.cil_violations.specs.Held.{AreShort, are_both_held, both_hold, holds_symbol, is_known, symbols_in}
pub use Rattle.cil_violations.specs.Index.{AreChains, DoAgree, IsChain, IsIndexFrom, IsIndexOf, is_kind, is_set_rule, set_at, stood_for}
pub use Rattle.cil_violations.specs.Known.{AreClasses, StandAt}
pub use Rattle.cil_violations.specs.Lines.{AreLists, AreRows, IsRow, access_text, head_by, line_by, place_text, rule_in, rule_text, shared_text, violation_by}
pub use Rattle.cil_violations.specs.Permissions.{AreBelow, AreOrdered, IsOrdered, given_at, gives_class, is_among, of_class, or_else, set_gives, share, shared}
pub use Rattle.cil_violations.specs.Rows.{AreHeadsOf, AreMetBySet, IsPair, IsSearch, all_rows, classes_of, met_in, names_in, pair_rows, permissions_at, row_with, rows_at, rows_of, rules_in, sources_of, targets_of, tests_of}
pub use Rattle.cil_violations.specs.Search.{hits}
pub use Rattle.cil_violations.specs.Views.{violation_head, violation_seen}
pub use Rattle.std.specs.List.{flat_map}
