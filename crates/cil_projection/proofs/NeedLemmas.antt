-- The names that the rules of conditional statements need, rule by rule.
use Rattle.std.specs.Prelude.{◌≡◌, ◌≢◌, ℕ, Bool, List, Option, None, refl}
use Rattle.std.proofs.Common.{◌∙◌, ap}
use Rattle.cil_specs.specs.Place.{Place}
use Rattle.cil_specs.specs.Names.{Word}
use Rattle.cil_specs.specs.Shape.{put_word}
use Rattle.cil_specs.specs.Trees.{Trees, none, a_word, a_string, a_list}
use Rattle.cil_reader.specs.declared.place.Place as code_place
use Rattle.cil_reader.specs.declared.tree.TreeSlice.{TreeSlice}
use Rattle.cil_reader.specs.declared.tree.Tree.{Tree}
use Rattle.cil_reader.specs.declared.tree.Tree.TheVariants as trees
use Rattle.cil_reader.specs.Common.{place_of, tree_then, trees_of}
use Rattle.cil_projection.specs.Pieces.{Piece}
use Rattle.cil_projection.specs.Forms.{joined}
use Rattle.cil_projection.specs.Conditions.{Settings}
use Rattle.cil_projection.specs.Statements.{of_first_list, rule_needs, rules_need, branch_needs, branches_need}
use Rattle.cil_projection.specs.declared.piece.Piece as code
use Rattle.cil_projection.proofs.FormLemmas.{Completes, not_begun, without_word}

-- a tree that is no list
pub not_listed : (needs : List ℕ → Trees → Option (List Piece)) (tree : Tree) (rest : Trees)
    → ((at : code_place.Place) (end : ℕ) (items : TreeSlice) → tree ≡ trees.List at end items → ⊥) → of_first_list needs (tree_then tree rest) ≡ None
not_listed needs (trees.Word w) rest other = refl
not_listed needs (trees.String w) rest other = refl
not_listed needs (trees.List at end items) rest other = absurd (other at end items refl)

-- a list that begins with no word
pub not_named : (needs : List ℕ → Trees → Option (List Piece)) (tree : Tree) (at : code_place.Place) (end : ℕ) (items : TreeSlice) (rest : Trees) → tree ≡ trees.List at end items
    → ((word : Word) (more : Trees) → trees_of items ≢ put_word word more) → of_first_list needs (tree_then tree rest) ≡ None
not_named needs tree at end items rest is absent =
    ap (λ tree. of_first_list needs (tree_then tree rest)) is
    ∙ without_word (λ items. of_first_list needs (a_list (place_of at) end items rest)) refl (λ p t r. refl) (λ p e i r. refl) (trees_of items) absent

-- a list of a word and arguments
pub is_named : (needs : List ℕ → Trees → Option (List Piece)) (tree : Tree) (at : code_place.Place) (end : ℕ) (items : TreeSlice) (rest : Trees) (word : Word) (arguments : Trees)
    → tree ≡ trees.List at end items → trees_of items ≡ put_word word arguments → of_first_list needs (tree_then tree rest) ≡ needs word.text arguments
is_named needs tree at end items rest word arguments is named =
    ap (λ tree. of_first_list needs (tree_then tree rest)) is ∙ ap (λ items. of_first_list needs (a_list (place_of at) end items rest)) named

rules_list : (stay : Bool) (at : Place) (end : ℕ) (items rest : Trees) → rules_need stay (a_list at end items rest) ≡ joined (of_first_list (rule_needs stay) (a_list at end items rest)) (rules_need stay rest)
rules_list stay at end none rest = refl
rules_list stay at end (a_word place word arguments) rest = refl
rules_list stay at end (a_string place text more) rest = refl
rules_list stay at end (a_list place last inner more) rest = refl

pub rules_first : (stay : Bool) (tree : Tree) (all rest : Trees) → all ≡ tree_then tree rest
    → rules_need stay all ≡ joined (of_first_list (rule_needs stay) (tree_then tree rest)) (rules_need stay rest)
rules_first stay (trees.Word w) all rest is = ap (rules_need stay) is
rules_first stay (trees.String w) all rest is = ap (rules_need stay) is
rules_first stay (trees.List at end items) all rest is = ap (rules_need stay) is ∙ rules_list stay (place_of at) end (trees_of items) rest

-- rules of which the first has no needs
pub rules_stuck : (stay : Bool) (start now : List code.Piece) (all : Option (List Piece)) (tree : Tree) (left rest : Trees) → Completes start all now (rules_need stay left) → left ≡ tree_then tree rest
    → of_first_list (rule_needs stay) (tree_then tree rest) ≡ None → all ≡ None
rules_stuck stay start now all tree left rest completes is absent =
    not_begun start now all (rules_need stay left) (of_first_list (rule_needs stay) (tree_then tree rest)) (rules_need stay rest) completes (rules_first stay tree left rest is) absent

branches_list : (settings : Settings) (holds : Bool) (at : Place) (end : ℕ) (items rest : Trees)
    → branches_need settings holds (a_list at end items rest) ≡ joined (of_first_list (branch_needs settings holds) (a_list at end items rest)) (branches_need settings holds rest)
branches_list settings holds at end none rest = refl
branches_list settings holds at end (a_word place word arguments) rest = refl
branches_list settings holds at end (a_string place text more) rest = refl
branches_list settings holds at end (a_list place last inner more) rest = refl

pub branches_first : (settings : Settings) (holds : Bool) (tree : Tree) (all rest : Trees) → all ≡ tree_then tree rest
    → branches_need settings holds all ≡ joined (of_first_list (branch_needs settings holds) (tree_then tree rest)) (branches_need settings holds rest)
branches_first settings holds (trees.Word w) all rest is = ap (branches_need settings holds) is
branches_first settings holds (trees.String w) all rest is = ap (branches_need settings holds) is
branches_first settings holds (trees.List at end items) all rest is = ap (branches_need settings holds) is ∙ branches_list settings holds (place_of at) end (trees_of items) rest
