-- The names from elsewhere that this crate's proofs cite most, passed on from one place.
pub use Rattle.cil_bind.proofs.PositionLemmas.{any-position}
pub use Rattle.cil_counters.specs.ChangedMembers.{AreChangedMembers, AreHit, AreNamed, has_turned, pair_of, pairs_of}
pub use Rattle.cil_counters.specs.Counted.{AreReset, AreSettled, AreSymbolsOf, AreTakenBack, IsCounted, IsCountedBy, IsNow, WasBefore, atom_with, count_at, had_named, has_at, has_named, symbols_now}
pub use Rattle.cil_counters.specs.SymbolRanks.{ArePut, AreRanks}
pub use Rattle.cil_keyed_lines.specs.declared.symbol_key.SymbolKey.{SymbolKey}
pub use Rattle.cil_member_rows.specs.Rows.{count_before, count_now}
pub use Rattle.cil_member_updates.proofs.SymbolLemmas.{numbers-long, symbol-name, symbol-of, symbol-some}
pub use Rattle.cil_member_updates.specs.Policy.{AreCounts, AreKept}
pub use Rattle.cil_parse.specs.Lexicon.{AreNumbersOf}
pub use Rattle.cil_resolve.specs.Below.{is_rule_below}
pub use Rattle.cil_resolve.specs.Resolved.{meaning_in}
pub use Rattle.cil_resolve.specs.Sets.{name_in, sets_in}
pub use Rattle.cil_resolve.specs.declared.resolved.Resolved.{Resolved}
pub use Rattle.cil_rule_reach.specs.Named.{AreMembersOf, atom_of, is_named, name_at}
pub use Rattle.cil_specs.proofs.ReportLemmasMembers.{AnyByRecursion, all_from_contains, all_weaker, any-map, any_from, any_from_map, any_to, contains_from, contains_to}
pub use Rattle.cil_specs.specs.Dependence.{AreTheSame}
pub use Rattle.cil_specs.specs.Lookup.{has_name}
pub use Rattle.cil_specs.specs.Meaning.{Meaning, aims, count_of, is_in, is_in_table, keeps_type}
pub use Rattle.cil_specs.specs.Members.{HasSoundSets, is_member, keeps_attribute}
pub use Rattle.cil_specs.specs.Report.{AreAtoms, AreChanges, atom_cmp, is_listed}
pub use Rattle.cil_specs.specs.Rule.{Atom, SetStatement, at_element, at_itself, kind_index}
pub use Rattle.cil_specs.specs.Sets.{differ, holds_with}
pub use Rattle.cil_symbols.proofs.NameLemmas.{found-name}
pub use Rattle.cil_table_updates.proofs.GivenLemmas.{and-first, and-second, counted-named}
pub use Rattle.cil_table_updates.proofs.PlaceLemmas.{names-apart}
pub use Rattle.cil_table_updates.specs.Policies.{AreApart, count_named}
pub use Rattle.cil_text.specs.Image.{rule_kind_of}
pub use Rattle.cil_text.specs.declared.statement.RuleKind.{RuleKind}
pub use Rattle.cil_text.specs.declared.statement.RuleKind.TheVariants.{Allow, AuditAllow, DontAudit, NeverAllow}
pub use Rattle.std.proofs.Common.{Bool, Equal, Greater, Less, List, None, Option, Some, [], ap, arith, bytes_eq, cond, count_by, false, get_or, inl, inr, is_some, length, map, max, min, nat_lt, not, position, refl, set, slice_get, slice_index, slice_index_or, subst, suc, sym, take, take_all, true, true≢false, zero, zero-add, ℕ, ◌%◌, ◌&&◌, ◌*◌, ◌++◌, ◌+◌, ◌-◌, ◌/◌, ◌<◌, ◌==◌, ◌^◌, ◌||◌, ◌↔◌, ◌∙◌, ◌∷◌, ◌≡◌, ◌≢◌, ◌≤◌, ◌⊎◌}
pub use Rattle.std.proofs.lemmas.Bool.{and_from, and_parts, both_ways, cases_Bool, cases_eq, cases_lt, le-ltb, lt-ltb, ltb-true, not-true}
pub use Rattle.std.proofs.lemmas.List.{get_or-set_other, get_or-set_same, length-map, length-set, map-append}
pub use Rattle.std.proofs.lemmas.List.Folds.{list_any_at}
pub use Rattle.std.proofs.lemmas.List.Sums.{sum_by-cons, sum_by_more, sum_by_more_le}
pub use Rattle.std.proofs.lemmas.Option.{get_or_from_slice_get, none-some, same_Some, slice_get-get_or, slice_get_past, slice_get_within}
pub use Rattle.std.proofs.lemmas.Result.{IfOk-weaker}
pub use Rattle.std.proofs.lemmas.Slice.Eq.{bytes_eq-Decides}
pub use Rattle.std.specs.Bool.{IsTrue}
pub use Rattle.std.specs.List.{AllByRecursion, AllPairs, Contains, IsDistinct, list_all, list_any}
unfoldable pub use Rattle.std.specs.List.Sorted.{IsStrictlySortedBy}
pub use Rattle.std.specs.Rc.{rc_value}
