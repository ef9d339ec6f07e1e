-- The names from elsewhere that this crate's proofs cite most, passed on from one place.
pub use Rattle.cil_bind.specs.Binding.{AreBound, AreLeads, bound_in, bound_rows, kinds_of, leads_at}
pub use Rattle.cil_bind.specs.Ordered.{AreOrdered, IsBefore, IsLeast, IsRising, offsets_in, offsets_of}
pub use Rattle.cil_bind.specs.Policy.{AreMarked, IsFirstAgain, IsNumbered, IsTold, bound_of, fault_of}
pub use Rattle.cil_bind.specs.Rows.{AreNumbered, AreRows, DeclareThat, IsDeclared, IsOnce, IsRow, IsTaken, declares_name, is_optional_row, kinds_told}
pub use Rattle.cil_bind.specs.Scope.{AreAround, AreBlockSpaces, AreFrom, AreSpaced, AreSpelt, HaveModule, IsAround, IsBlockSpace, IsFrom, IsOpenedIn, IsSpaced, Stands, StandsFor, block_word, is_optional_kind, optional_number}
pub use Rattle.cil_bind.specs.Words.{AreAllLed, AreLed, AreWorded, Comes, IsLed, LeadsTo}
pub use Rattle.cil_bind.specs.declared.joined.NamedModule.{NamedModule}
pub use Rattle.cil_bind.specs.declared.rows.Row.{Row}
pub use Rattle.cil_lookup.specs.Lookup.{AreOpened, AreWithin, HaveDeclared, IsLead, Knows, is_key, named, namespace_at, path_of, table_index, table_of, word_at}
pub use Rattle.cil_lookup.specs.Namespaces.{Opens}
pub use Rattle.cil_lookup.specs.declared.lookup.Key.{Key}
pub use Rattle.cil_parse.proofs.AroundLemmas.{placed-flat}
pub use Rattle.cil_parse.specs.Around.{ArePlacedAs, IsBlockOf, IsOptionalOf, IsPlacedAs}
pub use Rattle.cil_parse.specs.Builder.{read, row_for, row_of}
pub use Rattle.cil_parse.specs.Citations.{AreCited, IsCited}
pub use Rattle.cil_parse.specs.Flat.{FlatStatement, flat}
pub use Rattle.cil_parse.specs.Forms.{kind_of, permissions_in, words_in}
pub use Rattle.cil_parse.specs.Lexicon.{AreNumbersOf}
pub use Rattle.cil_parse.specs.Parsed.{Spells, citations_of, cited_by, names_of, statement_count, texts_of}
pub use Rattle.cil_parse.specs.View.{IsShown}
pub use Rattle.cil_parse.specs.declared.citations.Citation.{Citation}
pub use Rattle.cil_parse.specs.declared.parsed.ParsedModule.{ParsedModule}
pub use Rattle.cil_parse.specs.declared.row.NumberedWord.{NumberedWord}
pub use Rattle.cil_parse.specs.declared.row.StatementKind.{StatementKind}
pub use Rattle.cil_parse.specs.declared.view.StatementView.{StatementView}
pub use Rattle.cil_specs.proofs.DeclaredLemmas.{one-namespace}
pub use Rattle.cil_specs.proofs.NamesLemmas.{all-append, all-contained, all-first, all-second, all-weaker, contains-cases, contains-first, contains-map, contains-other, earlier, later, rises-append, rises-less, rises-low, same_place, stands}
pub use Rattle.cil_specs.proofs.OnceLemmas.{PassesAmong, any-middle, once-filtered, passes-among, table-in, table_in, twice-nothing, twice-some}
pub use Rattle.cil_specs.proofs.Runs.{both_true, first_true, second_true}
pub use Rattle.cil_specs.specs.Joined.{Module, Placed, joined, namespace_inside, optionals_inside, placed}
pub use Rattle.cil_specs.specs.Kept.{AreApart, IsFirst, IsFirstFault, Optionals, is_within, judged, restricted}
pub use Rattle.cil_specs.specs.Lookup.{Table, block_name, classes, commons, permission_reference, permission_sets, declaration, declared_in, declares, from_namespace, has_block, has_name, inside, is_block, is_global, is_same, is_word, leads, nearest_block, outward, own_permissions, references, same_namespace, scopes, texts, types, word_text}
pub use Rattle.cil_specs.specs.Names.{Word, components, declared, is_name, is_reserved}
pub use Rattle.cil_specs.specs.Report.{name_cmp, names_rise}
pub use Rattle.cil_specs.specs.Statements.{ClassPermissions, anonymous, by_name, class_permission, class_permission_set, Form, Statements, alias_actual, are_apart, as_declared, as_referred, attribute_set, block, class, class_common, class_order, common, is_optional, itself, no_more, optional, rise_from, rule, stands_apart, statement, statement_offsets, target_words, the_named, type_alias, type_attribute, type_name, words_of}
pub use Rattle.std.proofs.Common.{All, Bool, Contains, IfNone, IsTrue, List, None, Option, Some, Vec, [], add-one, ap, append-nil, append_assoc, arith, bytes_eq, cond, drop, drop-cons, false, filter, get_or, if◌then◌else◌, inl, inr, is_some, length, length-append, map, nat_lt, not, of_calls, position, refl, rules, slice_index_or, slice_set, subst, suc, sym, take, true, true≢false, zero, ℕ, ◌&&◌, ◌++◌, ◌+◌, ◌<◌, ◌==◌, ◌^◌, ◌||◌, ◌∙◌, ◌∷◌, ◌≡◌, ◌≤◌, ◌⊎◌}
pub use Rattle.std.proofs.lemmas.Bool.{cases_lt, cases_order, eq-eqb, eqb-true, le-ltb, lt-ltb}
pub use Rattle.std.proofs.lemmas.Cmp.{nat_list_cmp_total, nat_list_eq_equiv}
pub use Rattle.std.proofs.lemmas.List.{get_or_append_left, length-map, map-append, take-append-drop, take_all}
pub use Rattle.std.proofs.lemmas.List.Elements.{Contains-get_or, filter-append}
pub use Rattle.std.proofs.lemmas.List.Folds.{Any-from_list_any, find_at, list_any-append, list_any_at}
pub use Rattle.std.proofs.lemmas.List.Quantifiers.{position-Some}
pub use Rattle.std.proofs.lemmas.Option.{get_or_from_slice_get, none-some, same_Some, slice_get-get_or, slice_get_past, slice_get_within}
pub use Rattle.std.specs.List.{AllByRecursion, find, list_all, list_any, position_or_len, slice_get}
unfoldable pub use Rattle.std.specs.List.{IsDistinct}
pub use Rattle.std.specs.Map.{lookup}
pub use Rattle.std.specs.Option.{IfSome, option_and_then, option_map, option_or}
