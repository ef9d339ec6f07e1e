-- The names from elsewhere that this crate's proofs cite most, passed on from one place.
pub use Rattle.cil_check.proofs.PositionLemmas.{all-at, get-append, get-last}
pub use Rattle.cil_matching.specs.Content.{SayTheSame, are_permissions_by, is_element_by, is_number_of, is_set_by, is_target_by, is_that, is_written_by}
pub use Rattle.cil_matching.specs.Inverse.{IsInverse, noted}
pub use Rattle.cil_matching.specs.Matching.{AreMatched, AreNumbers, ArePlaces, AreRight, AreSameAt}
pub use Rattle.cil_matching.specs.Merged.{AreBefore, IsFoundAt, IsMissedAt}
pub use Rattle.cil_matching.specs.Passed.{ArePassed}
pub use Rattle.cil_matching.specs.Spot.{AreApart, Spot, rule_spot, same_spot, set_spot, spot_cmp, spot_of}
pub use Rattle.cil_matching.specs.Walk.{StandAlike, numbered_in}
pub use Rattle.cil_resolve.specs.Resolved.{meaning_in}
pub use Rattle.cil_resolve.specs.Sets.{sets_in}
pub use Rattle.cil_specs.proofs.ReportLemmas.{name_total, same-kind, sorted_from_names_rise, then_equal}
pub use Rattle.cil_specs.proofs.ViolationLemmas.{rule_total}
pub use Rattle.cil_specs.specs.Report.{name_cmp}
pub use Rattle.cil_specs.specs.Rule.{IsSameRule, IsSameSet, ResolvedTarget, Rule, RuleContent, SetContent, SetStatement, a_type, an_attribute, at_element, at_itself, content_of, kind_index, set_content_of}
pub use Rattle.cil_specs.specs.Violations.{rule_cmp}
pub use Rattle.std.proofs.Common.{AllPairs, Bool, IsTrue, List, None, Option, Some, [], ap, arith, bytes_eq, cond, false, get_or, if◌then◌else◌, inl, inr, is_some, length, map, nat_lt, option_map, position, refl, set, slice_get, slice_index_or, subst, suc, sym, true, true≢false, zero, ℕ, ◌&&◌, ◌++◌, ◌+◌, ◌<◌, ◌==◌, ◌||◌, ◌↔◌, ◌∙◌, ◌∷◌, ◌≡◌, ◌≤◌}
pub use Rattle.std.proofs.lemmas.Bool.{and_parts, cases_eq, cases_lt, cases_order, eq-eqb, eqb-true, ltb-true}
pub use Rattle.std.proofs.lemmas.Cmp.{tied_itself}
pub use Rattle.std.proofs.lemmas.List.{length-append, length-map, length-set, map-append}
pub use Rattle.std.proofs.lemmas.Option.{get_or_from_slice_get, none-some, same_Some, slice_get-get_or, slice_get-map, slice_get_within}
pub use Rattle.std.specs.List.{list_all, list_any}
unfoldable pub use Rattle.std.specs.List.Sorted.{IsStrictlySortedBy}
pub use Rattle.std.specs.declared.cmp.Ordering.{Ordering}
pub use Rattle.std.specs.declared.cmp.Ordering.TheVariants.{Equal, Greater, Less}
