-- Statements of parsed modules as they are seen.
use Rattle.std.specs.Prelude.{◌≡◌, ℕ, List, map, Some}
use Rattle.cil_text.specs.Image.{place_of}
use Rattle.cil_parse.specs.Forms.{kind_of, words_in, nodes_in}
use Rattle.cil_parse.specs.Flat.{FlatStatement}
use Rattle.cil_parse.specs.Builder.{read}
use Rattle.cil_parse.specs.declared.view.StatementView.{StatementView}

-- the view shows the statement, its words by the numbers of these texts
pub record IsShown (texts : List (List ℕ)) (v : StatementView) (f : FlatStatement) : Type 0 where
  pub at : place_of v.at ≡ f.at
  pub kind : v.kind ≡ kind_of f.form
  pub block : v.block ≡ f.block
  pub optional : v.optional ≡ f.optional
  pub words : map (read texts) v.words.now ≡ map Some (words_in f.form)
  pub nodes : v.nodes.now ≡ nodes_in f.form
