-- The lists of permissions of statements by their numbers.
use Rattle.cil_parse.proofs.Common.{◌≡◌, ℕ, ◌<◌, List, [], ◌∷◌, map, length, get_or, drop, Option, Some, None, slice_get, refl, sym, ap, ◌∙◌, arith, drop-map, option_map, length-map, get_or-map, same_Some, slice_get_within, get_or_from_slice_get, place_of, flat, Statements, Word, leaves, texts, itself, the_named, Form, common, class, class_permission_set, rule, anonymous, read, kind_of, words_in, permissions_in, FlatStatement, permission_words, permission_texts, IsShown, NumberedWord, Row, StatementView}
use Rattle.cil_parse.specs.Parsed.{texts_of, permission_lists_of, statement_count, Spells}
use Rattle.cil_parse.specs.declared.parsed.ParsedModule.{ParsedModule}
use Rattle.cil_parse.proofs.ParsedLemmas.{same-length, same-at, shown}
use Rattle.cil_parse.proofs.RowLemmas.{made-length, made-at}
use Rattle.cil_parse.specs.declared.row.StatementKind.TheVariants as kinds

-- the text of a word that is read
text-read : (all : List (List ℕ)) (w : NumberedWord) (x : Word) → read all w ≡ Some x → get_or all w.text [] ≡ x.text
text-read all w x is = by (slice_get all w.text) refl is
  where
    by : (o : Option (List ℕ)) → slice_get all w.text ≡ o → option_map (λ t. record { at = place_of w.at; text = t }) o ≡ Some x → get_or all w.text [] ≡ x.text
    by None e is = cc
    by (Some t) e is = get_or_from_slice_get all w.text t [] e ∙ ap (λ (y : Word). y.text) (same_Some (record { at = place_of w.at; text = t }) x is)

pub texts-read : (all : List (List ℕ)) (ws : List NumberedWord) (words : List Word) → map (read all) ws ≡ map Some words → map (λ n. get_or all n []) (map (λ w. w.text) ws) ≡ texts words
texts-read all [] [] is = refl
texts-read all [] (x ∷ words) is = cc
texts-read all (w ∷ ws) [] is = cc
texts-read all (w ∷ ws) (x ∷ words) is =
    let head : read all w ≡ Some x = cc in
    let rest : map (read all) ws ≡ map {A = Word} Some words = cc in
    let first = text-read all w x head in
    let more = texts-read all ws words rest in
    (λ i. first i ∷ more i)

module _ {W X : Type 0} (f : W → X) (g : Word → X) where
  behind-words : (n : ℕ) (ws : List W) (all : List Word) → map f ws ≡ map g all → map f (drop n ws) ≡ map g (drop n all)
  behind-words n ws all is = sym (drop-map f n ws) ∙ ap (drop n) is ∙ drop-map g n all

  -- the permissions are among the words
  pub among-words : (form : Form) (ws : List W) → map f ws ≡ map g (words_in form) → map f (permission_words (kind_of form) ws) ≡ map g (permissions_in form)
  among-words (common id permissions) ws is = behind-words 1 ws (id ∷ permissions) is
  among-words (class id permissions) ws is = behind-words 1 ws (id ∷ permissions) is
  among-words (class_permission_set set the_class permissions) ws is = behind-words 2 ws (set ∷ the_class ∷ leaves permissions) is
  among-words (rule kind source itself (anonymous the_class permissions)) ws is = behind-words 2 ws (source ∷ the_class ∷ leaves permissions) is
  among-words (rule kind source (the_named word) (anonymous the_class permissions)) ws is = behind-words 3 ws (source ∷ word ∷ the_class ∷ leaves permissions) is
  among-words _ ws is = refl

pub shown-permissions : (all : List (List ℕ)) (v : StatementView) (f : FlatStatement) → IsShown all v f → map (read all) (permission_words v.kind v.words.now) ≡ map Some (permissions_in f.form)
shown-permissions all v f shown = ap (λ kind. map (read all) (permission_words kind v.words.now)) shown.kind ∙ among-words (read all) Some f.form v.words.now shown.words

-- what is read behind the end of the rows
pub no_row : Row
no_row = record { at = record { offset = 0; line = 0; column = 0 }; kind = kinds.Block; around = record { block = 0; optional = 0 } }

module _ {A : Type 0} (p : ParsedModule A) where
  -- each statement has a number
  pub numbers-long : length p.permission_lists.numbers.items ≡ statement_count p
  numbers-long =
      same-length (slice_get p.permission_lists.lists.0) Some p.permission_lists.numbers.items (permission_texts p.rows.items p.words.0) p.listed
      ∙ made-length (λ row words. map (λ w. w.text) (permission_words row.kind words)) p.rows.items p.words.0 p.each_words

  -- and its list is that of the number
  list-there : (i n d : ℕ) → i < statement_count p → n ≡ get_or p.permission_lists.numbers.items i d
      → slice_get p.permission_lists.lists.0 n ≡ Some (map (λ w. w.text) (permission_words (get_or p.rows.items i no_row).kind (get_or p.words.0 i [])))
  list-there i n d within is =
      let long = numbers-long in
      let there : i < length p.permission_lists.numbers.items = omega (arith, long, within) in
      ap (slice_get p.permission_lists.lists.0) is
      ∙ same-at (slice_get p.permission_lists.lists.0) Some p.permission_lists.numbers.items (permission_texts p.rows.items p.words.0) i d _ p.listed there (made-at (λ row words. map (λ w. w.text) (permission_words row.kind words)) p.rows.items p.words.0 i no_row p.each_words within)

  pub list-within : (i n d : ℕ) → i < statement_count p → n ≡ get_or p.permission_lists.numbers.items i d → n < length (permission_lists_of p)
  list-within i n d within is =
      let low = slice_get_within p.permission_lists.lists.0 n _ (list-there i n d within is) in
      let long = length-map p.permission_lists.lists.0 (map (λ n. get_or (texts_of p) n [])) in
      omega (arith, low, long)

  -- the list of a statement of the module
  pub list-is : (i n d : ℕ) (statements : Statements) (f : FlatStatement) → i < statement_count p → n ≡ get_or p.permission_lists.numbers.items i d → Spells p statements → slice_get (flat 0 0 0 statements) i ≡ Some f
      → get_or (permission_lists_of p) n [] ≡ texts (permissions_in f.form)
  list-is i n d statements f within is spells here =
      get_or-map (map (λ n. get_or (texts_of p) n [])) p.permission_lists.lists.0 n [] [] (slice_get_within p.permission_lists.lists.0 n _ there)
      ∙ ap (map (λ n. get_or (texts_of p) n [])) (get_or_from_slice_get p.permission_lists.lists.0 n _ [] there)
      ∙ texts-read (texts_of p) (permission_words r.kind words) (permissions_in f.form) (shown-permissions (texts_of p) v f v_is)
    where
      r : Row
      r = get_or p.rows.items i no_row

      words : List NumberedWord
      words = get_or p.words.0 i []

      there : slice_get p.permission_lists.lists.0 n ≡ Some (map (λ w. w.text) (permission_words r.kind words))
      there = list-there i n d within is

      v : StatementView
      v = record { at = r.at; kind = r.kind; block = r.around.block; optional = r.around.optional; words = record { ref_ptr = (0, 0); now = words }; nodes = record { ref_ptr = (0, 0); now = get_or p.nodes.0 i [] } }

      v_is : IsShown (texts_of p) v f
      v_is = shown p statements f i no_row v spells here within refl refl refl refl p.each_words p.each_nodes refl refl
