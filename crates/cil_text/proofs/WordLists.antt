-- Words one after the other.
use Rattle.cil_text.proofs.Common.{◌≡◌, ◌≢◌, List, [], ◌∷◌, ◌++◌, map, refl, sym, ◌∙◌, ap, map-append, Trees, none, put_word, all_words, word_of, tree_then, Word, Tree}
use Rattle.cil_specs.specs.Names as spec
use Rattle.cil_reader.specs.declared.tree.Tree.TheVariants as trees

-- the words, and then the rest
abbrev pub words_then : List spec.Word → Trees → Trees
words_then [] rest = rest
words_then (w ∷ ws) rest = put_word w (words_then ws rest)

-- the found words are all that stands in front of the rest
pub record AreSoFar (all rest : Trees) (found : List Word) : Type 0 where
  pub front : all ≡ words_then (map word_of found) rest

words_then-push : (ws : List spec.Word) (w : spec.Word) (rest : Trees) → words_then (ws ++ w ∷ []) rest ≡ words_then ws (put_word w rest)
words_then-push [] w rest = refl
words_then-push (v ∷ ws) w rest = ap (put_word v) (words_then-push ws w rest)

words_then-none : (ws : List spec.Word) → words_then ws none ≡ all_words ws
words_then-none [] = refl
words_then-none (w ∷ ws) = ap (put_word w) (words_then-none ws)

pub words_next : (all rest : Trees) (found : List Word) (tree : Tree) (w : Word) → tree ≡ trees.Word w → AreSoFar all (tree_then tree rest) found → AreSoFar all rest (found ++ w ∷ [])
words_next all rest found tree w is so_far = record {
  front =
      so_far.front ∙ ap (λ tree. words_then (map word_of found) (tree_then tree rest)) is
      ∙ sym (words_then-push (map word_of found) (word_of w) rest) ∙ ap (λ ws. words_then ws rest) (sym (map-append word_of found (w ∷ [])));
}

pub words_all : (all : Trees) (found : List Word) → AreSoFar all none found → all ≡ all_words (map word_of found)
words_all all found so_far = so_far.front ∙ words_then-none (map word_of found)

-- words and then trees that are no words are no words
pub no_words : (ws : List spec.Word) (rest : Trees) → ((vs : List spec.Word) → rest ≢ all_words vs) → (vs : List spec.Word) → words_then ws rest ≢ all_words vs
no_words [] rest other vs h = other vs h
no_words (w ∷ ws) rest other [] h = absurd cc
no_words (w ∷ ws) rest other (v ∷ vs) h = no_words ws rest other vs (cc h)

pub words_none : (all rest : Trees) (found : List Word) → AreSoFar all rest found → ((vs : List spec.Word) → rest ≢ all_words vs) → (vs : List spec.Word) → all ≢ all_words vs
words_none all rest found so_far other vs h = no_words (map word_of found) rest other vs (sym so_far.front ∙ h)

-- a tree that is no word is none of words
pub not_words : (tree : Tree) (rest : Trees) → ((w : Word) → tree ≡ trees.Word w → ⊥) → (vs : List spec.Word) → tree_then tree rest ≢ all_words vs
not_words (trees.Word w) rest other vs h = other w refl
not_words (trees.String w) rest other [] h = absurd cc
not_words (trees.String w) rest other (v ∷ vs) h = absurd cc
not_words (trees.List at end items) rest other [] h = absurd cc
not_words (trees.List at end items) rest other (v ∷ vs) h = absurd cc
