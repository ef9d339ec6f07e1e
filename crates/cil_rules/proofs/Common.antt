-- The names from elsewhere that this crate's proofs cite most, passed on from one place.
pub use Rattle.cil_accesses.specs.Renumbered.{IsWithin}
pub use Rattle.cil_accesses.specs.declared.access.AccessNumbers.{AccessNumbers}
pub use Rattle.cil_rules.specs.Atoms.{AreNumbered, atom_at, name_at}
pub use Rattle.cil_rules.specs.NumberedRows.{AreNumberedRows, IsNumberedRow, line_by, numbered_row, row_by, row_of}
pub use Rattle.cil_rules.specs.Rows.{chunk_text, groups_of, listed, name_text, permission_text, put_first, row_at, row_head, row_with, rows_of}
pub use Rattle.cil_specs.proofs.ReportLemmas.{equal-is, name_total, row_total, same-kind, sorted_from_names_rise, then_equal}
pub use Rattle.cil_specs.proofs.ReportLemmasMembers.{AnyByRecursion, all_weaker, any-filter, any-flat_map, any-map, any_from, any_from_counted, any_from_filter, any_from_flat_map, any_from_map, any_from_test, any_to, any_weaker, contains_from, contains_to, sorted_map, sorted_unmap}
pub use Rattle.cil_specs.specs.Report.{AreAtoms, AreRows, Has, IsRow, Row, atom_cmp, is_listed, name_cmp, names_rise, row_cmp, row_line}
pub use Rattle.cil_specs.specs.Rule.{Atom, kind_index}
pub use Rattle.cil_stream.proofs.Gaining.{front-longer, gains-both, gains-none, gains-pieces_front, gains-pieces_more, gains-then_front, on_err}
pub use Rattle.cil_stream.specs.Device.{Gains, GainsFront}
pub use Rattle.cil_text.specs.Image.{rule_kind_of}
pub use Rattle.std.proofs.Common.{Bool, Err, IfOk, List, Ok, OnErr, OnOk, Option, Result, [], ap, append-nil, append_assoc, arith, bytes_eq, codes, cond, drop, false, get_or, inl, inr, length, map, nat_lt, one-add, refl, rules, subst, sym, take, true, ℕ, ◌&&◌, ◌++◌, ◌+◌, ◌-◌, ◌<◌, ◌==◌, ◌∙◌, ◌∷◌, ◌≡◌, ◌≢◌, ◌≤◌, ◌⊎◌}
pub use Rattle.std.proofs.lemmas.Bool.{and_from, and_parts, both_ways, cases_order, eqb-true, ltb-true, true≢false}
pub use Rattle.std.proofs.lemmas.Cmp.{nat_cmp_total, on_total, then_total, tied_itself}
pub use Rattle.std.proofs.lemmas.List.{drop-append-le, drop_at, get_or_read, length-append, length-drop, map_push, take-append-le, take_all, take_at}
pub use Rattle.std.proofs.lemmas.List.Elements.{All-append, All-from_recursion, All-map, All-push, All-weaker, filter_more, recursion_from_All}
pub use Rattle.std.proofs.lemmas.Result.{IfOk-weaker, on_err_weaker, on_ok_weaker}
pub use Rattle.std.specs.Bool.{IsTrue}
pub use Rattle.std.specs.List.{All, AllByRecursion, Any, filter, flat_map, list_all, list_any, prefix_len}
unfoldable pub use Rattle.std.specs.List.Sorted.{IsStrictlySortedBy}
pub use Rattle.std.specs.Ordering.{eq_by_cmp, is_eq, nat_cmp, ordering_reverse, ordering_then}
pub use Rattle.std.specs.declared.cmp.Ordering.{Ordering}
pub use Rattle.std.specs.declared.cmp.Ordering.TheVariants.{Equal, Greater, Less}
