-- The names from elsewhere that this crate's proofs cite most, passed on from one place.
pub use Rattle.cil_resolve.specs.Below.{is_element_below, is_name_below, is_rule_below, is_target_below}
pub use Rattle.cil_resolve.specs.Numbers.{declared_of, element_of, given_in, resolved_target_of, rule_of}
pub use Rattle.cil_resolve.specs.Resolved.{meaning_in}
pub use Rattle.cil_resolve.specs.SetPermissions.{AreInOrder, permission_cmp}
pub use Rattle.cil_resolve.specs.Sets.{name_in}
pub use Rattle.cil_resolve.specs.Views.{RuleHead, rule_head, rule_seen}
pub use Rattle.cil_resolve.specs.declared.numbered.NumberedRule.{NumberedRule}
pub use Rattle.cil_resolve.specs.declared.numbered.ResolvedTarget.{ResolvedTarget}
pub use Rattle.cil_resolve.specs.declared.resolved.Resolved.{Resolved}
pub use Rattle.cil_resolve.specs.declared.set_permissions.ClassPermission.{ClassPermission}
pub use Rattle.cil_specs.proofs.ReportLemmasMembers.{AnyByRecursion, all_from_contains, all_weaker, any-filter, any-flat_map, any-map, any_from, any_from_filter, any_from_flat_map, any_from_map, any_from_test, any_weaker, contains_from, contains_to, sorted_map, test_from_any}
pub use Rattle.cil_specs.specs.Meaning.{aims, covers, holds, keeps_type}
pub use Rattle.cil_specs.specs.Violations.{AreViolations, IsViolation, Violation, rule_cmp, rule_place, violation_cmp, violation_line}
pub use Rattle.cil_stream.proofs.Gaining.{front-longer, gains-both, gains-pieces_front, gains-pieces_more, gains-then_front, on_err}
pub use Rattle.cil_stream.specs.Device.{Gains, GainsFront}
pub use Rattle.cil_violations.specs.Aims.{aim_of}
pub use Rattle.cil_violations.specs.Held.{AreShort, are_both_held, both_hold, is_held_in, is_known, symbols_in}
pub use Rattle.cil_violations.specs.Index.{AreChains, AreHeads, AreOfSet, are_of_set, DoAgree, IsChain, IsIndexFrom, IsIndexOf, if_there, is_allow, is_allow_of, is_allow_of_set, is_kind, is_of_set, is_set_rule, links_to, rules_of_set, set_at, set_of, set_of_one, stood_by, stood_by_at, stood_for}
pub use Rattle.cil_violations.specs.Known.{AreClasses, IsOfSets, StandAt}
pub use Rattle.cil_violations.specs.Lines.{AreLists, AreRows, IsRow, access_text, head_by, line_by, name_text, no_rule, rule_in, rule_text, shared_in, shared_text, violation_by}
pub use Rattle.cil_violations.specs.Permissions.{AreBelow, AreOrdered, IsOrdered, given_at, gives_class, is_among, is_same, of_class, or_else, set_gives, set_gives_at, share, shared}
pub use Rattle.cil_violations.specs.Rows.{AreHeadsOf, AreMetBySet, IsSearch, Tests, all_rows, classes_of, met_in, names_in, pair_rows, permissions_at, row_with, rows_at, rows_of, rules_in, source_rows, sources_of, takes_source, takes_target, target_rows, targets_of, tests_of}
pub use Rattle.cil_violations.specs.Search.{IsFirstWordFrom, IsWordOf, NoneFrom, NoneFromWord, hits}
pub use Rattle.cil_violations.specs.declared.row.RowNumbers.{RowNumbers}
pub use Rattle.cil_violations.specs.declared.search.Search.{Search}
pub use Rattle.std.proofs.Common.{Bool, Contains, Equal, IfOk, IsTrue, List, MatchOption, None, OnErr, Option, Ordering, Some, [], add-one, ap, append-nil, append_assoc, arith, bit_and, bytes_eq, codes, cond, decimal, drop, drop-cons, eqb, false, get_or, inl, inr, length, length-append, map, min, refl, replicate, rules, set, slice_get, slice_index, subst, suc, sym, take, true, true≢false, w64, zero, ℕ, ◌%◌, ◌&&◌, ◌*◌, ◌++◌, ◌+◌, ◌-◌, ◌/◌, ◌<◌, ◌==◌, ◌^◌, ◌||◌, ◌↔◌, ◌∙◌, ◌∷◌, ◌≡◌, ◌≢◌, ◌≤◌, ◌⊎◌}
pub use Rattle.std.proofs.lemmas.Bool.{and_from, and_parts, cases_eq, cases_lt, cases_order, eq-eqb, eqb-true, lt-ltb, ltb-true, ne_eqb}
pub use Rattle.std.proofs.lemmas.Cmp.{nat_cmp_total, tied_itself}
pub use Rattle.std.proofs.lemmas.List.{drop_all, drop_more, take_all, get_or-map, get_or-replicate, get_or-set_other, get_or-set_same, get_or_default, length-map, length-replicate, length-set}
pub use Rattle.std.proofs.lemmas.Option.{get_or_from_slice_get, none-some, same_Some, slice_get-get_or, slice_get-map, slice_get_cases, slice_get_read, slice_get_within}
pub use Rattle.std.specs.List.{AllByRecursion, dedup, filter, flat_map, list_all, list_any}
pub use Rattle.std.specs.List.Sorted.{IsPermutation, IsSorted, IsStrictlyIncreasing}
unfoldable pub use Rattle.std.specs.List.Sorted.{IsStrictlySortedBy}
pub use Rattle.std.specs.Ordering.{nat_cmp, on, ordering_reverse, ordering_then, then_cmp}
pub use Rattle.std.specs.Prelude.{nat_lt, slice_index_or}
pub use Rattle.std.specs.Cmp.{IsTotalOrder}
pub use Rattle.std.specs.declared.cmp.Ordering.TheVariants.{Greater, Less}
