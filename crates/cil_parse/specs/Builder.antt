-- What was gone over of a module.
use Rattle.std.specs.Prelude.{◌≡◌, ℕ, List, [], ◌∷◌, ◌++◌, length, drop, map, Option, Some, slice_get}
use Rattle.std.specs.Option.{option_map}
use Rattle.cil_specs.specs.Place.{Place}
use Rattle.cil_specs.specs.Names.{Word}
use Rattle.cil_specs.specs.Statements.{Form, Statements}
use Rattle.cil_specs.specs.Expr.{WordExpr, leaves}
use Rattle.cil_text.specs.Image.{place_of}
use Rattle.cil_text.specs.Expr.{exprs_of}
use Rattle.cil_text.specs.Form.{form_of, at_of}
use Rattle.cil_text.specs.declared.statement.Expr.{Expr}
use Rattle.cil_text.specs.declared.statement.Statement.{Statement}
use Rattle.cil_parse.specs.Lexicon.{texts_in, IsLexicon}
use Rattle.cil_parse.specs.Forms.{expr_nodes, kind_of, names_then, nodes_in, permission_nodes, words_in}
use Rattle.cil_parse.specs.Flat.{FlatStatement, flat}
use Rattle.cil_parse.specs.declared.builder.Builder.{Builder}
use Rattle.cil_parse.specs.declared.row.NumberedWord.{NumberedWord}
use Rattle.cil_parse.specs.declared.row.Around.{Around}
use Rattle.cil_parse.specs.declared.row.Row.{Row}
use Rattle.cil_parse.specs.declared.row.SetNode.{SetNode}
use Rattle.cil_parse.specs.declared.row.StatementKind.{StatementKind}

-- the word that a number stands for
abbrev pub read : List (List ℕ) → NumberedWord → Option Word
read texts word = option_map (λ text. record { at = place_of word.at; text = text }) (slice_get texts word.text)

-- a statement but for its words and its expression
abbrev pub RowView : Type 0
RowView = Place × StatementKind × ℕ × ℕ

abbrev pub row_of : Row → RowView
row_of r = (place_of r.at, r.kind, r.around.block, r.around.optional)

abbrev pub row_for : FlatStatement → RowView
row_for f = (f.at, kind_of f.form, f.block, f.optional)

-- These statements were gone over, and these words and nodes of the one that comes.
pub record IsAt {A : Type 0} (b : Builder A) (list : List FlatStatement) (words : List Word) (nodes : List SetNode) : Type 0 where
  pub is_lexicon : IsLexicon b.lexicon
  pub closed_words : map (map (read (texts_in b.lexicon))) b.words.0 ≡ map (λ f. map Some (words_in f.form)) list
  pub open_words : map (read (texts_in b.lexicon)) b.words.1 ≡ map Some words
  pub closed_nodes : b.nodes.0 ≡ map (λ f. nodes_in f.form) list
  pub open_nodes : b.nodes.1 ≡ nodes
  pub rows : map row_of b.rows.items ≡ map row_for list

-- more words and nodes of the statement that comes
pub record Adds {A : Type 0} (old new : Builder A) (words : List Word) (nodes : List SetNode) : Type 0 where
  pub goes : (list : List FlatStatement) (before : List Word) (in_front : List SetNode) → IsAt old list before in_front → IsAt new list (before ++ words) (in_front ++ nodes)

-- those of an expression
abbrev pub AddsExpr : {A : Type 0} → Builder A → Builder A → WordExpr → Type 0
AddsExpr old new expr = Adds old new (leaves expr) (expr_nodes expr)

-- those of an expression of permissions
abbrev pub AddsPermissions : {A : Type 0} → Builder A → Builder A → WordExpr → Type 0
AddsPermissions old new expr = Adds old new (leaves expr) (permission_nodes expr)

-- the words of so many elements in front came, each of which is a name
pub record AddsNamesInFront {A : Type 0} (old new : Builder A) (all : List (Expr A)) (count : ℕ) : Type 0 where
  pub names : List Word
  pub adds : Adds old new names []
  pub long : length names ≡ count
  pub in_front : exprs_of all ≡ names_then names (exprs_of (drop count all))

-- those of a statement
abbrev pub AddsForm : {A : Type 0} → Builder A → Builder A → Form → Type 0
AddsForm old new form = Adds old new (words_in form) (nodes_in form)

-- the statement that came is whole
pub record Closes {A : Type 0} (old new : Builder A) (row : Row) : Type 0 where
  pub goes : (list : List FlatStatement) (words : List Word) (nodes : List SetNode) (f : FlatStatement) → IsAt old list words nodes → words_in f.form ≡ words → nodes_in f.form ≡ nodes → row_of row ≡ row_for f → IsAt new (list ++ f ∷ []) [] []

-- more statements came
pub record Puts {A : Type 0} (old new : Builder A) (more : List FlatStatement) : Type 0 where
  pub goes : (list : List FlatStatement) → IsAt old list [] [] → IsAt new (list ++ more) [] []

-- the statements came, with these around them
pub record Places {A : Type 0} (old new : Builder A) (around : Around) (statements : Statements) : Type 0 where
  pub goes : (list : List FlatStatement) → IsAt old list [] [] → IsAt new (list ++ flat around.block around.optional (length list) statements) [] []

-- a statement but for those inside it
abbrev pub top : {A : Type 0} → Around → Statement A → List FlatStatement
top around s = record { at = at_of s; form = form_of s; block = around.block; optional = around.optional } ∷ []
