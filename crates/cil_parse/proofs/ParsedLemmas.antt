-- What a parsed module shows.
use Rattle.cil_parse.proofs.Common.{◌≡◌, ℕ, ◌<◌, List, [], map, length, get_or, Some, slice_get, sym, ap, ◌∙◌, arith, map-id, option_map, length-map, same_Some, slice_get-map, slice_get-get_or, components, Statements, place_of, texts_in, AreNumbersOf, AreSplit, words_in, nodes_in, kind_of, FlatStatement, flat, count, read, row_of, row_for, IsAt, IsShown, Builder, StatementView, Row}
use Rattle.cil_parse.specs.Parsed.{texts_of, statement_count, Spells, IsOwned}
use Rattle.cil_parse.specs.declared.parsed.ParsedModule.{ParsedModule}
use Rattle.cil_parse.proofs.FlatLemmas.{length-flat}

pub same-length : {X Y Z : Type 0} (f : X → Z) (g : Y → Z) (xs : List X) (ys : List Y) → map f xs ≡ map g ys → length xs ≡ length ys
same-length f g xs ys is = sym (length-map xs f) ∙ ap length is ∙ length-map ys g

-- what two lists have at a place
pub same-at : {X Y Z : Type 0} (f : X → Z) (g : Y → Z) (xs : List X) (ys : List Y) (i : ℕ) (d : X) (y : Y) → map f xs ≡ map g ys → i < length xs → slice_get ys i ≡ Some y → f (get_or xs i d) ≡ g y
same-at f g xs ys i d y is within at =
    same_Some (f (get_or xs i d)) (g y)
    (sym (slice_get-map f xs i ∙ ap (option_map f) (slice_get-get_or xs i d within)) ∙ ap (λ l. slice_get l i) is ∙ slice_get-map g ys i ∙ ap (option_map g) at)

pub words-length : {A : Type 0} (b : Builder A) (list : List FlatStatement) → IsAt b list [] [] → length b.words.0 ≡ length b.rows.items
words-length b list at =
    same-length (map (read (texts_in b.lexicon))) (λ f. map Some (words_in f.form)) b.words.0 list at.closed_words ∙ sym (same-length row_of row_for b.rows.items list at.rows)

pub nodes-length : {A : Type 0} (b : Builder A) (list : List FlatStatement) → IsAt b list [] [] → length b.nodes.0 ≡ length b.rows.items
nodes-length b list at = ap length at.closed_nodes ∙ length-map list (λ f. nodes_in f.form) ∙ sym (same-length row_of row_for b.rows.items list at.rows)

-- the statements that were gone over are those of the module
pub owned-spells : {A : Type 0} (b : Builder A) (p : ParsedModule A) (statements : Statements) → IsAt b (flat 0 0 0 statements) [] [] → IsOwned b p → Spells p statements
owned-spells b p statements at owned = record {
  rows = ap (map row_of) owned.rows ∙ at.rows;
  words = (λ i. map (map (read (owned.texts i))) (owned.words i).0) ∙ at.closed_words;
  nodes = ap (λ n. n.0) owned.nodes ∙ at.closed_nodes;
}

pub spelt-count : {A : Type 0} (p : ParsedModule A) (statements : Statements) → Spells p statements → statement_count p ≡ count statements
spelt-count p statements spells = same-length row_of row_for p.rows.items (flat 0 0 0 statements) spells.rows ∙ length-flat 0 0 0 statements

-- the parts of a row
pub shown : {A : Type 0} (p : ParsedModule A) (statements : Statements) (f : FlatStatement) (i : ℕ) (d : Row) (v : StatementView) → Spells p statements → slice_get (flat 0 0 0 statements) i ≡ Some f → i < statement_count p
    → v.at ≡ (get_or p.rows.items i d).at → v.kind ≡ (get_or p.rows.items i d).kind → v.block ≡ (get_or p.rows.items i d).around.block → v.optional ≡ (get_or p.rows.items i d).around.optional
    → length p.words.0 ≡ length p.rows.items → length p.nodes.0 ≡ length p.rows.items → v.words.now ≡ get_or p.words.0 i [] → v.nodes.now ≡ get_or p.nodes.0 i [] → IsShown (texts_of p) v f
shown p statements f i d v spells here within at kind block optional each_words each_nodes words nodes =
    let list = flat 0 0 0 statements in
    let row = same-at row_of row_for p.rows.items list i d f spells.rows within here in
    let many : i < length p.words.0 = omega arith in
    let several : i < length p.nodes.0 = omega arith in
    let sets = same-at (λ n. n) (λ f. nodes_in f.form) p.nodes.0 list i [] f (map-id p.nodes.0 ∙ spells.nodes) several here in record {
      at = ap place_of at ∙ ap (λ r. r.0) row;
      kind = kind ∙ ap (λ r. r.1) row;
      block = block ∙ ap (λ r. r.2) row;
      optional = optional ∙ ap (λ r. r.3) row;
      words = ap (map (read (texts_of p))) words ∙ same-at (map (read (texts_of p))) (λ f. map Some (words_in f.form)) p.words.0 list i [] f spells.words many here;
      nodes = nodes ∙ sets;
    }

-- the kind of a row
pub shown-kind : {A : Type 0} (p : ParsedModule A) (statements : Statements) (f : FlatStatement) (i : ℕ) (d : Row) → Spells p statements → slice_get (flat 0 0 0 statements) i ≡ Some f → i < statement_count p
    → (get_or p.rows.items i d).kind ≡ kind_of f.form
shown-kind p statements f i d spells here within = ap (λ r. r.1) (same-at row_of row_for p.rows.items (flat 0 0 0 statements) i d f spells.rows within here)

pub split-at : (names lists texts : List (List ℕ)) (n : ℕ) (numbers : List ℕ) → AreSplit names lists texts → n < length texts → numbers ≡ get_or lists n [] → AreNumbersOf names numbers (components (get_or texts n []))
split-at names lists texts n numbers split within is =
    let long = same-length (map (slice_get names)) (λ t. map Some (components t)) lists texts split in
    let inside : n < length lists = omega arith in
    ap (map (slice_get names)) is ∙ same-at (map (slice_get names)) (λ t. map Some (components t)) lists texts n [] (get_or texts n []) split inside (slice_get-get_or texts n [] within)
