-- The names from elsewhere that this crate's proofs cite most, passed on from one place.
pub use Rattle.cil_specs.specs.Bytes.{hex, is_comment_byte, is_mark, is_string_byte, is_white, is_word_byte}
pub use Rattle.cil_specs.specs.Expr.{Expr, Expresses, HasNoOperator, IsListThen, IsOperationThen, Lists, WordExpr, both, either, elements, every, leaves, map_leaves, named, nothing, one_of, operators, opposite}
pub use Rattle.cil_specs.specs.Joined.{Module, Placed, joined, namespace_inside, optionals_inside, placed}
pub use Rattle.cil_specs.specs.Kept.{AreApart, AreKept, Compiles, IsFirst, IsGood, IsPolicyFault, IsWithin, Optionals, dropped_of, has_innermost, is_optional_at, is_within, judged, restricted}
unfoldable pub use Rattle.cil_specs.specs.Kept.{is_member}
pub use Rattle.cil_specs.specs.Lookup.{Table, permission_reference, permission_sets, permissions_with, actual_in, actual_of, actual_statement, block_name, classes, common_permissions, commons, declaration, declared_in, declared_name, declares, from_namespace, gives_actual, gives_common, has_block, has_name, holds_of, inside, is_alias, is_attribute, is_block, is_global, is_same, is_type, is_word, leads, listed_by, named_permissions, nearest_block, outward, own_permissions, permissions_of, references, same_namespace, scopes, texts, types}
pub use Rattle.cil_specs.specs.Meaning.{Meaning, Means, is_in, keeps_type, meaning_of}
pub use Rattle.cil_specs.specs.Names.{Role, Word, components, name_fault}
pub use Rattle.cil_specs.specs.Parts.{EndsBefore, IsClean, IsPart, Moves, Nests, Part, Splits, closing, comment, opening, spelling, string, white, word}
pub use Rattle.cil_specs.specs.Place.{Place, is_line_feed, place_at}
pub use Rattle.cil_specs.specs.PolicyFault.{IsCircular, IsFaultOf, IsFaulty, PolicyFault, PolicyFaultKind, alias_twice, alias_twice_words, alias_unset, alias_unset_words, alias_words, circular, common_words, element_words, has_earlier_actual, has_earlier_common, has_too_many, is_again, is_lacking, is_of_another_kind, is_outside, is_unfound, is_unset, kinds_asked, missing, missing_words, second_common, second_common_words, tables, too_many_permissions, too_many_words, twice, twice_words, wrong_kind, wrong_kind_words}
pub use Rattle.cil_specs.specs.Rule.{Atom, Declared, Element, SetStatement, a_type, an_attribute, attributes_of, declared_as, element_at, element_of, element_or_none, kind_index, name_or_none, set_statement_of, sets_of}
pub use Rattle.cil_specs.specs.Sets.{DependsOn, DependsThrough, HasNoCircle, IsNextOf, attribute_holds, differ, expr_holds, holds_with, is_the_attribute, mentions}
pub use Rattle.cil_specs.specs.Shape.{ArePermissions, Begins, Fits, IsAllowed, IsAtWord, IsBodyFault, IsClassAndPermissions, IsExpressionList, IsClassList, IsFirstShapeFault, IsGoodWord, IsInnerFault, IsListFault, IsShapeFault, IsTargetThen, IsWordFault, IsWordList, Shapes, all_words, in_optional, is_among, keywords, no_fit, no_keyword, no_name, outside_optionals, put_word}
pub use Rattle.cil_specs.specs.Statements.{ClassPermissions, anonymous, by_name, permission_words, Form, RuleKind, Statements, Target, alias_actual, allow, are_apart, as_declared, as_referred, attribute_set, auditallow, block, class, class_common, class_order, class_permission, class_permission_set, common, dontaudit, is_optional, itself, neverallow, no_more, optional, rise_from, rule, rule_word, stands_apart, statement, statement_offsets, target_words, the_named, type_alias, type_attribute, type_name, words_of}
pub use Rattle.cil_specs.specs.TextFault.{IsNoLater, TextFault, TextFaultKind, bad_byte, bad_name, bare_word, code_of, misshapen, not_in_optional, reserved, too_deep, unbalanced, unclosed, unclosed_string, unsupported}
pub use Rattle.cil_specs.specs.Trees.{Mark, Reads, Trees, a_list, a_string, a_word, are_lists, closing_before, in_order, marks, none, opening_at, string_at, told, word_at}
pub use Rattle.std.proofs.Common.{Bool, IsTrue, List, None, Option, Some, [], ap, append-nil, append_assoc, arith, bytes_eq, codes, cond, drop, false, get_or, if◌then◌else◌, inl, inr, is_some, length, length-append, length-drop, map, nat_le, nat_lt, not, one-add, refl, subst, suc, sym, take, true, zero, ℕ, ◌&&◌, ◌++◌, ◌+◌, ◌-◌, ◌<◌, ◌==◌, ◌||◌, ◌↔◌, ◌∙◌, ◌∷◌, ◌≡◌, ◌≢◌, ◌≤◌, ◌⊎◌}
pub use Rattle.std.proofs.Math.Bool.{and-true, or-true}
pub use Rattle.std.proofs.lemmas.Bool.{and_from, and_parts, cases_lt, cases_order, eq-eqb, eqb-true, false≢true, le-leb, leb-true, lt-ltb, ltb-false, ltb-true, or_cases, true≢false}
pub use Rattle.std.proofs.lemmas.Cmp.{nat_cmp_total, nat_list_cmp_total, on_total, then_total, tied_itself}
pub use Rattle.std.proofs.lemmas.List.{get_or-map, get_or_default, length-map, length-take-le, map-append}
pub use Rattle.std.proofs.lemmas.List.Sums.{count_by-le-length, count_by_more_no, suffix_len-le-length, suffix_len-take_yes, sum_by-cons}
pub use Rattle.std.proofs.lemmas.Option.{IfSome_then, none-some}
pub use Rattle.std.proofs.lemmas.Slice.Eq.{bytes_eq-Decides}
pub use Rattle.std.specs.Cmp.{IsTotalOrder}
pub use Rattle.std.specs.List.{All, AllByRecursion, Any, Contains, count_by, filter, find, flat_map, list_all, list_any, prefix_len, remove, slice_get, suffix_len, take_while}
pub use Rattle.std.specs.List.Sorted.{IsPartitionPoint, IsPartitionedBy}
unfoldable pub use Rattle.std.specs.List.Sorted.{IsStrictlySortedBy}
pub use Rattle.std.specs.Option.{IfSome, MatchOption, option_and_then, option_or, option_to_list}
pub use Rattle.std.specs.Ordering.{is_eq, is_lt, nat_cmp, ordering_reverse, ordering_then}
pub use Rattle.std.specs.declared.cmp.Ordering.{Ordering}
pub use Rattle.std.specs.declared.cmp.Ordering.TheVariants.{Equal, Greater, Less}
