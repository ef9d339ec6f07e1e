-- The names from elsewhere that this crate's contracts cite most, passed on from one place.
pub use Rattle.cil_reader.specs.Forest.{forest_of}
pub use Rattle.cil_reader.specs.Tree.{is_one}
pub use Rattle.cil_specs.specs.Expr.{HasNoOperator, IsListThen, leaves}
pub use Rattle.cil_specs.specs.Shape.{IsFirstShapeFault, IsShapeFault, IsTargetThen, Shapes, is_among, outside_optionals, put_word}
pub use Rattle.cil_specs.specs.Statements.{Statements, as_declared, as_referred, is_optional, permission_words, target_words, words_of}
pub use Rattle.cil_specs.specs.Trees.{Trees, a_list, are_lists, in_order, none}
pub use Rattle.cil_text.specs.Expr.{AreExpressionList, BeginsOperation, SpellsBoxed, SpellsElements, SpellsExpr, SpellsOne, SpellsOperation, SpellsTwo, exprs_of, operator_word}
pub use Rattle.cil_text.specs.Form.{AreClassAndPermissions, AreClasses, ArePermissionsOf, FitsAs, IsAttributeAndSet, IsWithoutUnordered, form_of, scope_form}
pub use Rattle.cil_text.specs.Image.{FaultIs, expr_of, permissions_of, place_of, statements_of, target_of, tree_then, trees_of, word_of}
pub use Rattle.cil_text.specs.Name.{kind_option, role_of, without_dot}
pub use Rattle.cil_text.specs.Walk.{AreGood, BeginsAs, Checks, IsFirstAmong, IsFirstOf, IsHeading, IsHeadingFault, IsLeafWord, IsNext, IsOpener, IsScope, IsStatement, in_role}
pub use Rattle.std.specs.List.{list_all, list_any, slice_split}
