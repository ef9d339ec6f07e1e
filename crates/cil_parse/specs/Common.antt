-- The names from elsewhere that this crate's contracts cite most, passed on from one place.
pub use Rattle.cil_parse.specs.Citations.{AreCited, AreCitedBy, Finds, IsFound, cited, citation_lists}
pub use Rattle.cil_parse.specs.Builder.{Adds, AddsExpr, AddsForm, AddsNamesInFront, AddsPermissions, Closes, IsAt, Places, Puts, read, top}
pub use Rattle.cil_parse.specs.Flat.{FlatStatement, flat}
pub use Rattle.cil_parse.specs.Forms.{expr_nodes, is_plain, kind_of, name_nodes, nodes_with, permission_nodes, permissions_in, words_with}
pub use Rattle.cil_parse.specs.Lexicon.{AddsNames, AreNumbersOf, IsLexicon, SplitsText, seen, texts_in}
pub use Rattle.cil_parse.specs.PermissionLists.{AreListed, permission_texts, permission_words}
pub use Rattle.cil_specs.specs.Lookup.{declared_in, references, with_name}
pub use Rattle.cil_specs.specs.Shape.{IsFirstShapeFault}
pub use Rattle.cil_specs.specs.Statements.{Statements, rule, target_words}
pub use Rattle.cil_reader.specs.Forest.{forest_of}
pub use Rattle.cil_text.specs.Image.{FaultIs, expr_of, permissions_of, place_of, rule_kind_of, statements_of, target_of, trees_of, word_of}
