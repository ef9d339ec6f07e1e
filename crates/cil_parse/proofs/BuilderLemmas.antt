-- Words and nodes that come to what was gone over.
use Rattle.cil_parse.proofs.Common.{◌≡◌, ℕ, suc, ◌+◌, ◌<◌, List, [], ◌∷◌, ◌++◌, map, length, get_or, drop, take, Option, Some, None, slice_get, refl, sym, ap, subst, ◌∙◌, append_assoc, append-nil, add-one, option_map, map-append, take_more, Word, with_name, leaves, place_of, word_of, expr_of, texts_in, Keeps, IsLexicon, expr_nodes, words_in, read, row_of, IsAt, Adds, AddsExpr, Builder, NumberedWord}
use Rattle.std.proofs.Math.Seq.{drop-cons}
use Rattle.cil_text.specs.Expr.{exprs_of}
use Rattle.cil_text.specs.declared.statement.Expr as code
use Rattle.cil_reader.specs.declared.word.Word as code_words
use Rattle.cil_parse.specs.declared.row.SetNode.{SetNode}
use Rattle.cil_parse.specs.declared.row.SetNode.TheVariants as nodes
use Rattle.cil_parse.proofs.LexiconLemmas.{each-keeps, each-append, lists-keep, with_name-keeps}

pub adds-none : {A : Type 0} (b : Builder A) → Adds b b [] []
adds-none b = record { goes = λ list before in_front is. subst (λ w. IsAt b list w (in_front ++ [])) (sym (append-nil before)) (subst (IsAt b list before) (sym (append-nil in_front)) is) }

pub adds-then : {A : Type 0} (a b c : Builder A) (words others : List Word) (nodes more : List SetNode) → Adds a b words nodes → Adds b c others more → Adds a c (words ++ others) (nodes ++ more)
adds-then a b c words others nodes more first second = record {
  goes = λ list before in_front is.
      subst (λ w. IsAt c list w (in_front ++ (nodes ++ more))) (append_assoc before words others)
      (subst (IsAt c list ((before ++ words) ++ others)) (append_assoc in_front nodes more) (second.goes list (before ++ words) (in_front ++ nodes) (first.goes list before in_front is)));
}

-- a word is read as before where the texts stay
pub read-keeps : (old new : List (List ℕ)) → Keeps old new → (n : NumberedWord) (word : Word) → read old n ≡ Some word → read new n ≡ Some word
read-keeps old new keeps n word is = by (slice_get old n.text) refl is
  where
    by : (found : Option (List ℕ)) → slice_get old n.text ≡ found → option_map (λ text. record { at = place_of n.at; text = text }) found ≡ Some word → read new n ≡ Some word
    by None e is = cc
    by (Some text) e is = ap (option_map (λ text. record { at = place_of n.at; text = text })) (keeps n.text text e) ∙ is

pub adds-word : {A : Type 0} (old new : Builder A) (text : List ℕ) (n : NumberedWord) (word : Word) → slice_get (texts_in new.lexicon) n.text ≡ Some text → word ≡ record { at = place_of n.at; text = text }
    → texts_in new.lexicon ≡ with_name (texts_in old.lexicon) text → (IsLexicon old.lexicon → IsLexicon new.lexicon) → new.words ≡ (old.words.0, old.words.1 ++ n ∷ []) → new.nodes ≡ old.nodes → new.rows ≡ old.rows → Adds old new (word ∷ []) []
adds-word old new text n word found is texts lexicon words nodes rows = record {
  goes = λ list before in_front at. let keeps = read-keeps (texts_in old.lexicon) (texts_in new.lexicon) (subst (Keeps (texts_in old.lexicon)) (sym texts) (with_name-keeps (texts_in old.lexicon) text)) in
      let all = read (texts_in new.lexicon) in
      let here : all n ≡ Some word = ap (option_map (λ text. record { at = place_of n.at; text = text })) found ∙ ap Some (sym is) in record {
        is_lexicon = lexicon at.is_lexicon;
        closed_words = ap (λ w. map (map all) w.0) words ∙ lists-keep (read (texts_in old.lexicon)) all keeps (λ f. words_in f.form) old.words.0 list at.closed_words;
        open_words = ap (λ w. map all w.1) words ∙ each-append all old.words.1 (n ∷ []) before (word ∷ []) (each-keeps (read (texts_in old.lexicon)) all keeps old.words.1 before at.open_words) (ap (λ o. o ∷ []) here);
        closed_nodes = ap (λ s. s.0) nodes ∙ at.closed_nodes;
        open_nodes = ap (λ s. s.1) nodes ∙ at.open_nodes ∙ sym (append-nil in_front);
        rows = ap (λ r. map row_of r.items) rows ∙ at.rows;
      };
}

-- one word more of those of a list
pub next-word : (words : List code_words.Word) (i : ℕ) (d : code_words.Word) → i < length words → map word_of (take i words) ++ word_of (get_or words i d) ∷ [] ≡ map word_of (take (i + 1) words)
next-word words i d within = sym (ap (map word_of) (take_more words i d within) ∙ map-append word_of (take i words) (get_or words i d ∷ []))

-- These were gone over of the elements, and the others are left.
pub record GoesOver {A : Type 0} (old new : Builder A) (all left : List (code.Expr A)) : Type 0 where
  pub words : List Word
  pub nodes : List SetNode
  pub adds : Adds old new words nodes
  pub all_words : leaves (exprs_of all) ≡ words ++ leaves (exprs_of left)
  pub all_nodes : expr_nodes (exprs_of all) ≡ nodes ++ expr_nodes (exprs_of left)

pub goes-none : {A : Type 0} (b : Builder A) (all : List (code.Expr A)) → GoesOver b b all all
goes-none b all = record { words = []; nodes = []; adds = adds-none b; all_words = refl; all_nodes = refl }

pub goes-next : {A : Type 0} (old mid between new : Builder A) (all : List (code.Expr A)) (i : ℕ) (x : code.Expr A) → i < length all → x ≡ get_or all i x → GoesOver old mid all (drop i all)
    → Adds mid between [] (nodes.Element ∷ []) → AddsExpr between new (expr_of x) → GoesOver old new all (drop (i + 1) all)
goes-next {A} old mid between new all i x within is so_far node expr =
    let left = drop (i + 1) all in
    let here : drop i all ≡ x ∷ left = drop-cons all i x within ∙ ap (λ y. y ∷ drop (suc i) all) (sym is) ∙ ap (λ n. x ∷ drop n all) (sym (add-one i)) in
    let whole = adds-then mid between new [] (leaves (expr_of x)) (nodes.Element ∷ []) (expr_nodes (expr_of x)) node expr in record {
      words = so_far.words ++ leaves (expr_of x);
      nodes = so_far.nodes ++ (nodes.Element ∷ expr_nodes (expr_of x));
      adds = adds-then old mid new so_far.words (leaves (expr_of x)) so_far.nodes (nodes.Element ∷ expr_nodes (expr_of x)) so_far.adds whole;
      all_words = so_far.all_words ∙ ap (λ l. so_far.words ++ leaves (exprs_of l)) here ∙ sym (append_assoc so_far.words (leaves (expr_of x)) (leaves (exprs_of left)));
      all_nodes = so_far.all_nodes ∙ ap (λ l. so_far.nodes ++ expr_nodes (exprs_of l)) here ∙ sym (append_assoc so_far.nodes (nodes.Element ∷ expr_nodes (expr_of x)) (expr_nodes (exprs_of left)));
    }

pub goes-end : {A : Type 0} (old mid new : Builder A) (all : List (code.Expr A)) → GoesOver old mid all [] → Adds mid new [] (nodes.Nothing ∷ []) → AddsExpr old new (exprs_of all)
goes-end old mid new all so_far node =
    subst (λ w. Adds old new w (expr_nodes (exprs_of all))) (sym so_far.all_words)
    (subst (Adds old new (so_far.words ++ [])) (sym so_far.all_nodes) (adds-then old mid new so_far.words [] so_far.nodes (nodes.Nothing ∷ []) so_far.adds node))
