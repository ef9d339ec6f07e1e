-- The names from elsewhere that this crate's proofs cite most, passed on from one place.
pub use Rattle.cil_bind.proofs.DeclareLemmas.{row-at, rows-length, same-bool}
pub use Rattle.cil_bind.proofs.FromLemmas.{all-get, from-at, from-within, is-there}
pub use Rattle.cil_bind.proofs.NamespaceLemmas.{bytes_eq-refl, bytes_eq-true, distinct-place}
pub use Rattle.cil_bind.specs.Lookup.{IsFirstOf, IsLead, namespace_at, word_at}
pub use Rattle.cil_bind.specs.Ordered.{AreOrdered, IsBefore, IsLeast, offsets_in}
pub use Rattle.cil_bind.specs.Policy.{AreMarked, IsBoundTo, Makes, TellsAround, fault_of}
pub use Rattle.cil_bind.specs.Written.{IsOneName}
pub use Rattle.cil_bind.specs.declared.joined.NamedModule.{NamedModule}
pub use Rattle.cil_bind.specs.declared.rows.Row.{Row}
pub use Rattle.cil_check.proofs.AskedLemmas.{form-set, reads-word, set-reference, shown-long, word-there}
pub use Rattle.cil_check.proofs.PermissionLemmas.{as-many, no_word, none-listed, one-name-at, own-listed, word-read}
pub use Rattle.cil_check.proofs.SeenLemmas.{bound-at, form-there, is-long, kind-form, lead-of, row-there, seen-kind, seen-lead, seen-word, there-at}
pub use Rattle.cil_check.proofs.WordLemmas.{has-distinct, has-fold, none-there, once-first}
pub use Rattle.cil_check.specs.Bound.{AreFoundInside, IsOf, Reads}
pub use Rattle.cil_check.specs.Ordered.{IsFaultIn, IsFaultless}
pub use Rattle.cil_check.specs.Permissions.{lists_own}
pub use Rattle.cil_dependence.specs.Graph.{AreNodes, IsEdge, LeadsThrough}
pub use Rattle.cil_expression.proofs.SpellingLemmas.{expr-is, filled, nodes-mapped, written-nodes, written-spelt}
pub use Rattle.cil_expression.specs.Expression.{expr_in, set_expr_in}
pub use Rattle.cil_expression.specs.declared.expression.Element.{Element}
pub use Rattle.cil_expression.specs.declared.expression.Element.TheVariants.{Attribute, «Type»}
pub use Rattle.cil_parse.specs.Builder.{read}
pub use Rattle.cil_parse.specs.Forms.{expr_nodes, kind_of, nodes_in, permissions_in, rule_kind, words_in}
pub use Rattle.cil_parse.specs.Parsed.{permission_lists_of, texts_of}
pub use Rattle.cil_resolve.specs.Below.{are_permissions_below, is_class_below, is_element_below, is_name_below, is_permission_below, is_permission_set_below, is_rule_below, is_set_below, is_target_below, is_written_below}
pub use Rattle.cil_resolve.specs.Consistent.{are_permission_sets_of, are_permissions_of, are_placed_in, are_rules_of, is_aim_of, is_class_and_permissions_of, is_class_with, is_consistent, is_declared, is_element_of, is_rule_of}
pub use Rattle.cil_resolve.specs.Dropped.{AreFound, HaveMarks, dropped_if, dropped_unless, found_as, found_with, mark_of}
pub use Rattle.cil_resolve.specs.FullNames.{full_name_of, full_name_or, is_numbered, is_numbered_kind, name_in, numbered_id, space_text}
pub use Rattle.cil_resolve.specs.KnownPermissions.{HaveNumbers, KnowNumbers, known_at, list_at}
pub use Rattle.cil_resolve.specs.Lowering.{AreElements, ArePartsOf, ArePermissionSets, ArePermissions, AreRules, AreSets, GivePermissions, GivesSet, HaveElements, IsClass, IsDeclared, IsElement, IsExpression, IsIn, IsLowering, IsPermissionSet, IsRule, IsRuleOfClass, IsRuleOfSet, IsRuleStart, IsSpeltBy, KnowSets, NamesPermissions, WritesPermissions, attribute_if, class_if, common_in, common_of, is_set, modules_of, permission_set_if, rule_if, rule_with, set_if, type_if}
pub use Rattle.cil_resolve.specs.Naming.{AreNaming, is_naming, naming}
pub use Rattle.cil_resolve.specs.Numbering.{AreNamesOf, AreNumbersIn, HavePermissionsOf, HavePlaces, listed_names, names_of, names_with, number_in}
pub use Rattle.cil_resolve.specs.GivenSets.{AreGathered, ArePutInOrder, AreSetNumbers, GivesSets, given_to, set_gives}
pub use Rattle.cil_resolve.specs.Numbers.{GivesNumbered, class_of, declared_of, dropped_with, element_of, given_in, given_with, has_named, keeps_no_list, permission_set_of, resolved_permissions_of, resolved_target_of, set_of, written_in}
pub use Rattle.cil_resolve.specs.Resolved.{meaning_in}
pub use Rattle.cil_resolve.specs.SetPermissions.{AreInOrder, IsOrdered, permission_cmp}
pub use Rattle.cil_resolve.specs.SetOrder.{AreNamed, AreStraight, DependsThrough, IsNext, IsSetOrder, Mentions, StandTogether, attributes_in, names_in, sets_at}
pub use Rattle.cil_resolve.specs.declared.numbered.NumberedSet.{NumberedSet}
pub use Rattle.cil_specs.proofs.DependsLemmas.{any-contained, first-step}
pub use Rattle.cil_specs.proofs.KeptLemmas.{kept-good}
pub use Rattle.cil_specs.proofs.MeansLemmas.{flat-contains, leaves-mapped}
pub use Rattle.cil_specs.proofs.MemberLemmas.{in-known}
pub use Rattle.cil_specs.proofs.NamesLemmas.{all-contained, around, contains-cases, contains-first, contains-map, contains-mapped, contains-middle, contains-other}
pub use Rattle.cil_specs.proofs.OnceLemmas.{once-filtered, passes-among}
pub use Rattle.cil_specs.proofs.Runs.{both_true, first_true, second_true}
pub use Rattle.cil_specs.specs.Expr.{Expr, WordExpr, both, either, elements, every, leaves, map_leaves, named, nothing, one_of, opposite}
pub use Rattle.cil_specs.specs.Joined.{Module, Placed, joined}
pub use Rattle.cil_specs.specs.Kept.{AreApart, AreKept, Compiles, IsFirst, IsFirstFault, IsPolicyFault, Optionals, dropped_of, has_innermost, is_within, judged, restricted}
pub use Rattle.cil_specs.specs.Lookup.{Table, actual_in, actual_of, actual_statement, classes, common_permissions, commons, declaration, declared_in, declared_name, declares, distinct, from_namespace, full_name, gives_actual, gives_common, has_block, has_name, holds_of, inside, is_alias, is_attribute, is_global, is_same, is_type, is_word, leads, listed_by, named_permissions, nearest_block, outward, own_permissions, permission_reference, permission_sets, permissions_of, permissions_with, references, same_namespace, scopes, texts, types, with_name, word_text}
pub use Rattle.cil_specs.specs.Meaning.{Meaning, Means, holds, is_in, keeps_type, meaning_of}
pub use Rattle.cil_specs.specs.Members.{HasSoundSets, keeps_element}
unfoldable pub use Rattle.cil_specs.specs.Members.{is_member}
pub use Rattle.cil_specs.specs.Names.{Word, components}
pub use Rattle.cil_specs.specs.PolicyFault.{IsFaultOf, IsFaulty, PolicyFault, PolicyFaultKind, alias_twice, alias_unset, circular, common_words, element_words, has_earlier_common, is_lacking, is_of_another_kind, is_outside, is_unfound, is_unset, kinds_asked, missing, missing_words, second_common, too_many_permissions, twice, wrong_kind}
pub use Rattle.cil_specs.specs.Report.{name_cmp, names_rise}
pub use Rattle.cil_specs.specs.Rule.{Declared, IsSameSet, Rule, SetContent, SetStatement, a_type, an_attribute, at_element, attributes_of, class_as, class_name, classes_of, declared_as, element_at, element_or_none, is_class, name_or_none, permission_sets_of, rule_of, rules_of, set_statement_of, sets_of, texts_of as texts_in, types_of}
pub use Rattle.cil_specs.specs.Sets.{DependsOn, HasNoCircle, IsNextOf, element_holds, holds_with, is_the_attribute, mentions}
pub use Rattle.cil_specs.specs.Statements.{ClassPermissions, Form, RuleKind, Target, alias_actual, allow, anonymous, attribute_set, auditallow, block, by_name, class, class_common, class_order, class_permission, class_permission_set, common, dontaudit, is_optional, itself, neverallow, optional, rule, target_words, the_named, type_alias, type_attribute, type_name}
pub use Rattle.cil_text.specs.Image.{place_of, rule_kind_of}
pub use Rattle.std.proofs.Common.{All, Bool, Contains, Err, IfOk, IsTrue, List, None, Ok, Option, Result, Some, Vec, [], ap, append-nil, append_assoc, arith, bytes_eq, cond, eq-eqb, false, filter, flat_map, fold, get_or, if◌then◌else◌, inl, inr, is_some, length, length-take-le, map, nat_lt, not, of_calls, option_map, position, refl, rules, set, slice_index_or, subst, suc, sym, take, true, true≢false, zero, ℕ, ◌&&◌, ◌++◌, ◌+◌, ◌<◌, ◌==◌, ◌^◌, ◌||◌, ◌↔◌, ◌∙◌, ◌∷◌, ◌≡◌, ◌≢◌, ◌≤◌, ◌⊎◌}
pub use Rattle.std.proofs.Math.Bool.{or-false, or-true}
pub use Rattle.std.proofs.lemmas.Bool.{and_parts, cases_eq, cases_lt, cases_order, eqb-true, lt-ltb, ltb-true}
pub use Rattle.std.proofs.lemmas.Cmp.{nat_eq_equiv, nat_list_cmp_total, tied_itself}
pub use Rattle.std.proofs.lemmas.Grind.{flat_map-append}
pub use Rattle.std.proofs.lemmas.List.{get_or-map, get_or-set_other, get_or-set_same, get_or-take, get_or_append_left, get_or_default, get_or_push, length-append, length-map, length-set, length_push, map-append, take_all, take_more}
pub use Rattle.std.proofs.lemmas.List.Elements.{All-contains, Contains-append_left, Contains-append_right, Contains-get_or, Contains-push, Contains-push_cases, recursion_from_All}
pub use Rattle.std.proofs.lemmas.List.Folds.{list_all-append, list_any-append}
pub use Rattle.std.proofs.lemmas.List.Sums.{fold-append}
pub use Rattle.std.proofs.lemmas.Map.Views.{Contains-from_any, list_any-from_Contains}
pub use Rattle.std.proofs.lemmas.Option.{get_or_from_slice_get, none-some, same_Some, slice_get-get_or, slice_get-map, slice_get_past, slice_get_read, slice_get_within}
pub use Rattle.std.proofs.lemmas.Result.{IfOk-weaker, err_from_is_err_and, on_ok_weaker}
pub use Rattle.std.proofs.lemmas.Slice.Eq.{bytes_eq-Decides}
pub use Rattle.std.specs.List.{AllByRecursion, AllPairs, IsDistinct, cons_option, find, list_all, list_any, prefix_len, slice_get}
pub use Rattle.std.specs.List.Sorted.{IsPartitionPoint, IsPartitionedBy}
unfoldable pub use Rattle.std.specs.List.Sorted.{IsStrictlySortedBy}
pub use Rattle.std.specs.Option.{MatchOption, option_and_then, option_or, option_to_list, unwrap_or}
pub use Rattle.std.specs.Ordering.{is_lt, nat_cmp, ordering_reverse, ordering_then}
pub use Rattle.std.specs.declared.cmp.Ordering.TheVariants.{Equal, Greater, Less}
