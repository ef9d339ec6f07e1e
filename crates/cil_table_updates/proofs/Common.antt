-- The names from elsewhere that this crate's proofs cite most, passed on from one place.
pub use Rattle.cil_keyed_lines.specs.Keyed.{count_now, is_kind, steps_in}
pub use Rattle.cil_keyed_lines.specs.declared.symbol_key.SymbolKey.{SymbolKey}
pub use Rattle.cil_member_rows.specs.Rows.{count_before}
pub use Rattle.cil_resolve.specs.Below.{is_element_below, is_rule_below, is_target_below}
pub use Rattle.cil_resolve.specs.Consistent.{is_consistent, is_rule_of}
pub use Rattle.cil_resolve.specs.Meter.{adjustments_in, evaluations_in}
pub use Rattle.cil_resolve.specs.Numbers.{GivesNumbered, element_of, keeps_no_list, resolved_target_of, rule_of}
pub use Rattle.cil_resolve.specs.Resolved.{meaning_in}
pub use Rattle.cil_resolve.specs.declared.numbered.NumberedRule.{NumberedRule}
pub use Rattle.cil_resolve.specs.declared.resolved.Resolved.{Resolved}
pub use Rattle.cil_rule_reach.proofs.NamedLemmas.{as-many, covers-named, covers-none, is-below, symbol-named}
pub use Rattle.cil_rule_reach.specs.Named.{AreMembersOf, atom_of, is_named, name_at}
pub use Rattle.cil_rule_reach.specs.Reaches.{aims_by, has_by, members_of, permits_by, reaches_by}
unfoldable pub use Rattle.cil_rule_reach.specs.Reaches.{covers_by}
pub use Rattle.cil_rule_shifts.specs.Moves.{differs, moves_from}
pub use Rattle.cil_rule_shifts.proofs.OtherLemmas.{gives_by as granted}
pub use Rattle.cil_rule_shifts.specs.Permits.{AreInOrder, has_permit}
pub use Rattle.cil_rule_shifts.specs.Reach.{has_source, one_if, reaches, takes}
pub use Rattle.cil_rule_shifts.specs.declared.permit.Permit.{Permit}
pub use Rattle.cil_rule_shifts.specs.declared.reach.Reach.{Reach}
pub use Rattle.cil_specs.specs.Meaning.{Meaning, count_of, gives, is_in_table}
pub use Rattle.cil_specs.specs.Rule.{Atom, IsSameRule, Rule, a_type, at_itself, content_of, kind_index}
pub use Rattle.cil_sums.proofs.RiseLemmas.{rises-added, rises-first, rises-map, rises-next, rises-none, rises-same}
pub use Rattle.cil_sums.proofs.SumLemmas.{across-none, across-some, alone-none, alone-some, sum-differs, sum-more, sum-none, sum-part, sum-sides, sum-zero}
pub use Rattle.cil_sums.specs.Rises.{RisesBy, below}
pub use Rattle.cil_sums.specs.Sums.{ArePlaces, across, alone, sum_below}
pub use Rattle.cil_table_updates.specs.Adjusted.{AdjustsAtLeast, AdjustsAtMost, Counter, comes, gives_it, goes, replaces, shifts, swaps, turns}
pub use Rattle.cil_table_updates.specs.Changed.{StaysReach}
pub use Rattle.cil_table_updates.specs.Given.{gives_by}
unfoldable pub use Rattle.cil_table_updates.specs.Given.{given}
pub use Rattle.cil_table_updates.specs.Moves.{AreReplaced, IsReplaced, PermitTheSame, is_plain_list}
pub use Rattle.cil_table_updates.specs.Policies.{AreApart, HasSoundRules, IsPolicy, count_named}
pub use Rattle.cil_table_updates.specs.declared.policy.Policy.{Policy}
pub use Rattle.std.proofs.Common.{Bool, Equal, Err, Less, List, None, Ok, OnOk, Option, Result, Some, [], add-one, add-zero, ap, arith, bytes_eq, cond, count_by, false, get_or, inl, inr, length, map, min, nat_lt, not, refl, slice_get, slice_index, slice_index_or, subst, suc, sym, take, take_all, true, true≢false, zero, zero-add, ℕ, ◌&&◌, ◌++◌, ◌+◌, ◌-◌, ◌<◌, ◌==◌, ◌^◌, ◌||◌, ◌↔◌, ◌∙◌, ◌∷◌, ◌≡◌, ◌≢◌, ◌≤◌, ◌⊎◌}
pub use Rattle.std.proofs.lemmas.Bool.{cases_Bool, cases_eq, cases_lt, eq-eqb, le-ltb, lt-ltb, ltb-true, ne_eqb}
pub use Rattle.std.proofs.lemmas.List.{length-append, length-map}
pub use Rattle.std.proofs.lemmas.List.Elements.{All-append, All-contains, All-map, Contains-append_cases, Contains-append_left, Contains-append_right, Contains-get_or}
pub use Rattle.std.proofs.lemmas.Option.{get_or_from_slice_get, none-some, same_Some, slice_get-get_or, slice_get_read, slice_get_within}
pub use Rattle.std.proofs.lemmas.Result.{on_ok_weaker}
pub use Rattle.std.specs.List.{All, AllPairs, Contains, IsDistinct, list_all, list_any}
