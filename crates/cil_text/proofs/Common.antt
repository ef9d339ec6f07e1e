-- The names from elsewhere that this crate's proofs cite most, passed on from one place.
pub use Rattle.cil_reader.specs.Tree.{is_nothing, is_one}
pub use Rattle.cil_reader.specs.declared.place.Place.{Place}
pub use Rattle.cil_reader.specs.declared.tree.Tree.{Tree}
pub use Rattle.cil_reader.specs.declared.word.Word.{Word}
pub use Rattle.cil_specs.proofs.ExprLemmas.{AreOperands, no_all, no_and, no_not, no_or, no_xor, operation_is, operation_spelt, operator_of, string_spells, union_is, union_spelt}
pub use Rattle.cil_specs.proofs.FaultOrder.{at-offset, at_bracket, fault_within, fits_rise, front_first, list_within, no_later-here, word_within}
pub use Rattle.cil_specs.proofs.FormLemmas.{OperandsFit, first_word, fits_begin, fits_from, fits_parts}
pub use Rattle.cil_specs.proofs.FormSame.{fits_same, list_same, no_class, no_class_order, no_common, no_rule, put_same}
pub use Rattle.cil_specs.proofs.OrderLemmas.{RiseTo, order_list, rise_from_is, role_offset}
pub use Rattle.cil_specs.proofs.Runs.{first_true, second_true}
pub use Rattle.cil_specs.proofs.ShapeLemmas.{fits_keyword, fits_lists, inner_fault_is, inner_of_list, list_no_fault, outside_keyword, shapes_apart, shapes_no_fault, shapes_rise}
pub use Rattle.cil_specs.specs.Expr.{Expresses, HasNoOperator, IsListThen, Lists, WordExpr, both, either, elements, every, leaves, nothing, one_of, operators, opposite}
pub use Rattle.cil_specs.specs.Names.{Role, begins_name, components, declared, is_name, is_name_byte, is_reserved, is_spelt, name_fault, referred}
pub use Rattle.cil_specs.specs.Shape.{ArePermissions, Fits, IsAllowed, IsAtWord, IsClassAndPermissions, IsExpressionList, IsFirstShapeFault, IsInnerFault, IsShapeFault, IsTargetThen, IsWordFault, IsWordList, Shapes, all_words, in_optional, is_among, keywords, no_fit, no_keyword, no_name, outside_optionals, put_word}
pub use Rattle.cil_specs.specs.Statements.{ClassPermissions, Form, RuleKind, Statements, Target, anonymous, as_declared, as_referred, block, by_name, class_permission_set, is_optional, itself, no_more, optional, permission_words, rule, rule_word, statement, statement_offsets, target_words, the_named, words_of}
pub use Rattle.cil_specs.specs.TextFault.{IsNoLater, TextFault, TextFaultKind, bad_name, code_of, misshapen, not_in_optional, reserved, unsupported}
pub use Rattle.cil_specs.specs.Trees.{Trees, a_list, a_string, a_word, are_lists, in_order, none}
pub use Rattle.cil_text.specs.Expr.{AreExpressionList, BeginsOperation, SpellsBoxed, SpellsElements, SpellsExpr, SpellsOne, SpellsOperation, SpellsTwo, exprs_of, operator_word}
pub use Rattle.cil_text.specs.Form.{AreClassAndPermissions, AreClasses, ArePermissionsOf, FitsAs, at_of, form_of, has_body, scope_form}
pub use Rattle.cil_text.specs.Image.{FaultIs, expr_of, kind_of, permissions_of, place_of, row_expr, row_statements, rule_kind_of, shown, statement_then, statements_of, target_of, tree_then, trees_of, word_of}
pub use Rattle.cil_text.specs.Keyword.{opens, spelling}
pub use Rattle.cil_text.specs.Name.{role_of, without_dot}
pub use Rattle.cil_text.specs.Split.{AreWordAndList, AreWordList}
pub use Rattle.cil_text.specs.Walk.{AreGood, Checks, IsFaultOf, IsFirstAmong, IsFirstBad, IsFirstOf, IsFoundAs, IsHeading, IsHeadingFault, IsScope, IsStatement, in_role}
pub use Rattle.cil_text.specs.declared.statement.Expr.{Expr, Row_of-Expr, end_of-Expr, more_of-Expr}
pub use Rattle.cil_text.specs.declared.statement.Statement.{Block', Class, ClassCommon, ClassOrder, ClassPermission, ClassPermissionSet, Common, Optional', Row_of-Statement, Rule, Statement, Statement-F, TypeAlias, TypeAliasActual, TypeAttribute, TypeAttributeSet, TypeName, end_of-Statement, more_of-Statement, out-Statement, roll-Statement, roll-out-Statement}
pub use Rattle.std.proofs.Common.{Bool, Bor, Contains, Err, IfErr, IsErrAnd, IsTrue, List, MatchOption, None, Ok, Option, Result, Some, Vec, [], add-one, ap, arith, bytes_eq, codes, cond, drop, false, get_or, if◌then◌else◌, inl, inr, length, map, max, nat_le, not, option_map, refl, rules, subst, suc, sym, tests, true, zero, ℕ, ◌&&◌, ◌*◌, ◌++◌, ◌+◌, ◌-◌, ◌<◌, ◌==◌, ◌||◌, ◌∙◌, ◌∷◌, ◌≡◌, ◌≢◌, ◌≤◌, ◌⊎◌}
pub use Rattle.std.proofs.Math.Seq.{drop-cons}
pub use Rattle.std.proofs.lemmas.Bool.{and_parts, eqb-true, not-false, true≢false}
pub use Rattle.std.proofs.lemmas.Iterator.Search.{all_from_yields_List, any_from_yields_List}
pub use Rattle.std.proofs.lemmas.List.{map-append}
pub use Rattle.std.specs.List.{find, list_all, list_any, onto_first, slice_split}
