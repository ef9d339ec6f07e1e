-- The names from elsewhere that this crate's proofs cite most, passed on from one place.
pub use Rattle.cil_bind.proofs.NamespaceLemmas.{bytes_eq-true, distinct-place}
pub use Rattle.cil_bind.proofs.PositionLemmas.{any-before, any-position, around-at, at_if, is_before, position-append, position-cons, take-last, take-length, take-next}
pub use Rattle.cil_bind.specs.Lookup.{IsFirstOf, IsLead, word_at}
pub use Rattle.cil_bind.specs.Ordered.{AreOrdered, IsBefore, IsLeast, offsets_in, offsets_of}
pub use Rattle.cil_bind.specs.Written.{HaveOneNames, IsName, IsOneName}
pub use Rattle.cil_check.specs.Associations.{HasFirsts, HasFirstsOf, association_table, first_at, given_kind, given_lead, given_word, gives, with_first}
pub use Rattle.cil_check.specs.AttributeGraph.{AreMentioned, HaveNumbers, IsGraphOf, IsNumbered, Mentions, attribute_count, number_led, number_of}
pub use Rattle.cil_check.specs.Bound.{AreFoundInside, IsOf, IsSeen, Reads}
pub use Rattle.cil_check.specs.Checker.{IsNoted, first_unfound}
pub use Rattle.cil_check.specs.Few.{with_number}
pub use Rattle.cil_check.specs.Groups.{list_at, numbers_in}
pub use Rattle.cil_check.specs.Image.{IsFoundFault, PolicyFaultIs, fault_at, policy_kind_of}
pub use Rattle.cil_check.specs.Inherited.{HasInherited, HasInheritedOf, common_lead, common_word, given_names, names_listed}
pub use Rattle.cil_check.specs.Kinds.{again_words, is_kind, is_plain, is_rule_of_set, names_permissions, test_of, word_if}
pub use Rattle.cil_check.specs.Missing.{class_lead, class_with, has_list, lacking_words, named_class}
pub use Rattle.cil_check.specs.Ordered.{HasNoneBelow, IsCleanAt, IsFaultIn, IsFaultless}
pub use Rattle.cil_check.specs.Permissions.{HaveListed, HaveWords, is_listed, lists_own}
pub use Rattle.cil_check.specs.declared.bound.Seen.{Seen}
pub use Rattle.cil_check.specs.declared.fault.PolicyFaultKind.TheVariants.{AliasTwice, AliasUnset, Circular, Missing, SecondCommon, TooManyPermissions, Twice, WrongKind}
pub use Rattle.cil_check.specs.declared.firsts.Association.{Association}
pub use Rattle.cil_check.specs.declared.firsts.Association.TheVariants.{Actual, Common}
pub use Rattle.cil_check.specs.declared.permissions.Listed.{Listed}
pub use Rattle.cil_dependence.specs.Graph.{AreNodes, IsEdge, Leads, LeadsThrough}
pub use Rattle.cil_parse.specs.Builder.{read}
pub use Rattle.cil_parse.specs.Forms.{kind_of, permissions_in, words_in}
pub use Rattle.cil_parse.specs.Lexicon.{AreNumbersOf}
pub use Rattle.cil_parse.specs.Parsed.{Spells, names_of, texts_of}
pub use Rattle.cil_parse.specs.declared.row.NumberedWord.{NumberedWord}
pub use Rattle.cil_specs.proofs.CircularLemmas.{attribute-word, attribute_words, circular-listed, circular_words}
pub use Rattle.cil_specs.proofs.DependsLemmas.{any-contained, depends-decided, depends_on}
pub use Rattle.cil_specs.proofs.FirstLemmas.{faulty-listed, faulty_words}
pub use Rattle.cil_specs.proofs.MeansLemmas.{contains-flat, declared-led, flat-contains, leaves-mapped, no-elements}
pub use Rattle.cil_specs.proofs.NamesLemmas.{all-append, all-contained, around, contains-cases, contains-first, contains-map, contains-mapped, contains-middle, contains-other, earlier, later, rises-less, rises-low, same_place, stands}
pub use Rattle.cil_specs.proofs.OnceLemmas.{IsOnce, any-middle, passes-among}
pub use Rattle.cil_specs.proofs.Runs.{both_true, first_true, second_true}
pub use Rattle.cil_specs.specs.Expr.{WordExpr, leaves, map_leaves}
pub use Rattle.cil_specs.specs.Joined.{Placed}
pub use Rattle.cil_specs.specs.Lookup.{Table, permission_reference, permission_sets, permissions_with, actual_statement, classes, common_permissions, commons, declared_in, declared_name, declares, distinct, full_name, gives_actual, gives_common, has_name, holds_of, is_alias, is_attribute, is_same, is_word, leads, listed_by, named_permissions, own_permissions, permissions_of, references, same_namespace, scopes, texts, types, with_name, word_text}
pub use Rattle.cil_specs.specs.Names.{Word, begins_name, components, is_name, is_name_byte}
pub use Rattle.cil_specs.specs.PolicyFault.{IsCircular, IsFaultOf, IsNoLater, PolicyFault, PolicyFaultKind, alias_twice, alias_unset, alias_unset_words, alias_words, circular, code_of, common_words, element_words, has_earlier_actual, has_earlier_common, has_too_many, is_again, is_lacking, is_of_another_kind, is_outside, is_unfound, is_unset, kinds_asked, missing, missing_words, second_common, tables, too_many_permissions, too_many_words, twice, twice_words, wrong_kind, wrong_kind_words}
pub use Rattle.cil_specs.specs.Rule.{SetStatement, an_attribute, element_at, element_of, element_or_none, is_class, name_or_none, set_statement_of, sets_of}
pub use Rattle.cil_specs.specs.Sets.{DependsOn, DependsThrough, IsNextOf, is_the_attribute, mentions}
pub use Rattle.cil_specs.specs.Statements.{ClassPermissions, anonymous, by_name, class_permission, class_permission_set, permission_words, Form, Statements, alias_actual, as_declared, as_referred, attribute_set, block, class, class_common, class_order, common, is_optional, itself, optional, rise_from, rule, the_named, type_alias, type_attribute, type_name}
pub use Rattle.std.proofs.Common.{Bool, Bor, Contains, List, MatchOption, None, Option, Some, Vec, [], add-one, ap, append-nil, arith, bytes_eq, cond, drop, false, filter, fold, get_or, if◌then◌else◌, inl, inr, is_some, length, map, nat_eq, nat_le, nat_lt, not, position, refl, rules, set, subst, suc, sym, take, true, true≢false, zero, ℕ, ◌&&◌, ◌++◌, ◌+◌, ◌<◌, ◌==◌, ◌||◌, ◌↔◌, ◌∙◌, ◌∷◌, ◌≡◌, ◌≤◌, ◌⊎◌}
pub use Rattle.std.proofs.Math.Bool.{or-false, or-true}
pub use Rattle.std.proofs.lemmas.Bool.{cases_lt, cases_order, eq-eqb, eqb-false, eqb-true, le-ltb, leb-true, lt-ltb, ltb-true}
pub use Rattle.std.proofs.lemmas.Grind.{flat_map-append}
pub use Rattle.std.proofs.lemmas.List.{get_or_append_left, length-append, length-map, length-set, length-take-le, map-append, map-set, take-append-drop, take-append-le, take_all}
pub use Rattle.std.proofs.lemmas.List.Folds.{list_any-append}
pub use Rattle.std.proofs.lemmas.List.Quantifiers.{position-Some}
pub use Rattle.std.proofs.lemmas.List.Sums.{count_by_more_no, count_by_more_yes, fold-append, sum_by-cons}
pub use Rattle.std.proofs.lemmas.Option.{get_or_from_slice_get, none-some, same_Some, slice_get-get_or, slice_get-map, slice_get_read, slice_get_within}
pub use Rattle.std.proofs.lemmas.Result.{IfErr-weaker, err_from_is_err_and}
pub use Rattle.std.proofs.lemmas.Slice.Eq.{bytes_eq-Decides}
pub use Rattle.std.specs.List.{AllByRecursion, IsDistinct, count_by, find, flat_map, list_all, list_any, slice_get}
pub use Rattle.std.specs.Option.{IfSome, option_and_then, option_map, option_or, option_to_list}
