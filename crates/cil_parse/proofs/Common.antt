-- The names from elsewhere that this crate's proofs cite most, passed on from one place.
pub use Rattle.cil_parse.specs.Builder.{Adds, AddsExpr, AddsForm, AddsNamesInFront, AddsPermissions, Closes, IsAt, Places, Puts, read, row_for, row_of, top}
pub use Rattle.cil_parse.specs.Citations.{AreCited, Finds, IsCited, IsFound, citation_lists, cited, with_citation}
pub use Rattle.cil_parse.specs.Flat.{FlatStatement, block_inside, count, flat, optional_inside}
pub use Rattle.cil_parse.specs.Forms.{expr_nodes, is_plain, kind_of, name_nodes, names_then, nodes_in, nodes_with, permission_nodes, permissions_in, words_in, words_with}
pub use Rattle.cil_parse.specs.Lexicon.{AddsNames, AreNumbersOf, AreSplit, IsLexicon, Keeps, SplitsText, names_in, seen, texts_in}
pub use Rattle.cil_parse.specs.PermissionLists.{permission_texts, permission_words}
pub use Rattle.cil_parse.specs.Rows.{of_rows}
pub use Rattle.cil_parse.specs.View.{IsShown}
pub use Rattle.cil_parse.specs.declared.builder.Builder.{Builder}
pub use Rattle.cil_parse.specs.declared.lexicon.Lexicon.{Lexicon}
pub use Rattle.cil_parse.specs.declared.row.Around.{Around}
pub use Rattle.cil_parse.specs.declared.row.NumberedWord.{NumberedWord}
pub use Rattle.cil_parse.specs.declared.row.Row.{Row}
pub use Rattle.cil_parse.specs.declared.view.StatementView.{StatementView}
pub use Rattle.cil_specs.specs.Expr.{both, either, leaves, one_of, opposite}
pub use Rattle.cil_specs.specs.Lookup.{classes, declared_in, has_name, permission_sets, references, texts, types, with_name}
pub use Rattle.cil_specs.specs.Names.{Word, components}
pub use Rattle.cil_specs.specs.Shape.{IsFirstShapeFault, Shapes}
pub use Rattle.cil_specs.specs.Statements.{ClassPermissions, Form, Statements, alias_actual, anonymous, attribute_set, block, by_name, class, class_common, class_order, class_permission, class_permission_set, common, itself, no_more, optional, rule, statement, target_words, the_named, type_alias, type_attribute, type_name}
pub use Rattle.cil_text.proofs.FirstBad.{fault_weaker, handed_on}
pub use Rattle.cil_reader.specs.Forest.{forest_of}
pub use Rattle.cil_text.specs.Form.{at_of, form_of, has_body}
pub use Rattle.cil_text.specs.Image.{FaultIs, expr_of, permissions_of, place_of, row_statements, statement_then, statements_of, target_of, trees_of, word_of}
pub use Rattle.cil_text.specs.Walk.{IsFirstAmong, IsInFront, IsNext}
pub use Rattle.cil_text.specs.declared.statement.Statement.{Block', Class, ClassCommon, ClassOrder, ClassPermission, ClassPermissionSet, Common, Optional', Rule, Statement, TypeAlias, TypeAliasActual, TypeAttribute, TypeAttributeSet, TypeName}
pub use Rattle.std.proofs.Common.{Bool, Bor, IsTrue, List, None, OnOk, Option, Some, Vec, [], add-one, ap, append-nil, append_assoc, arith, bytes_eq, cond, drop, false, get_or, if◌then◌else◌, inl, inr, length, length-append, map, map-id, nat_lt, not, position, refl, slice_get, subst, suc, sym, take, true, true≢false, zero, ℕ, ◌++◌, ◌+◌, ◌-◌, ◌<◌, ◌==◌, ◌∙◌, ◌∷◌, ◌≡◌, ◌≤◌, ◌⊎◌}
pub use Rattle.std.proofs.lemmas.List.{drop-map, drop_all, get_or-map, length-map, map-append, take_all, take_more, take_rest}
pub use Rattle.std.proofs.lemmas.Option.{cond_some, get_or_from_slice_get, same_Some, slice_get-get_or, slice_get-map, slice_get_within}
pub use Rattle.std.specs.List.{onto_first, position_or_len, slice_split}
pub use Rattle.std.specs.Option.{option_and_then, option_map}
