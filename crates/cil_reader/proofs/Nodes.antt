-- The trees that nodes stand for.
use Rattle.cil_reader.proofs.Common.{◌≡◌, ℕ, ◌+◌, ◌-◌, ◌≤◌, zero, suc, List, [], ◌∷◌, length, take, drop, get_or, refl, ap, sym, ◌∙◌, length-drop, arith, length-take, take_rest, drop-cons, Trees, none, a_word, a_string, a_list, place_of, trees_upto, trees_in, trees_of, tree_then, tree_count, Place, Tree, Node}
use Rattle.cil_reader.specs.declared.tree.Tree.TheVariants as trees
use Rattle.cil_reader.specs.declared.node.Node.TheVariants.{Word, String, List as Listed}

-- as many as there are is enough
pub enough : (text : List ℕ) (n m : ℕ) (nodes : List Node) → length nodes ≤ n → length nodes ≤ m → trees_upto text n nodes ≡ trees_upto text m nodes
enough text zero zero nodes all some = refl
enough text zero (suc m) [] all some = refl
enough text zero (suc m) (x ∷ xs) all some = absurd (omega (arith, all))
enough text (suc n) zero [] all some = refl
enough text (suc n) zero (x ∷ xs) all some = absurd (omega (arith, some))
enough text (suc n) (suc m) [] all some = refl
enough text (suc n) (suc m) (Word at len ∷ behind) all some = ap (a_word (place_of at) (take len (drop at.offset text))) (enough text n m behind (omega (arith, all)) (omega (arith, some)))
enough text (suc n) (suc m) (String at len ∷ behind) all some = ap (a_string (place_of at) (take len (drop at.offset text))) (enough text n m behind (omega (arith, all)) (omega (arith, some)))
enough text (suc n) (suc m) (Listed at end inner ∷ behind) all some =
    let items = enough text n m (take inner behind) (omega (arith, all, length-take inner behind)) (omega (arith, some, length-take inner behind)) in
    let rest = enough text n m (drop inner behind) (omega (arith, all, length-drop inner behind)) (omega (arith, some, length-drop inner behind)) in
    λ i. a_list (place_of at) end (items i) (rest i)

-- a list is the nodes that it says, and then come those behind them
pub list_in : (text : List ℕ) (at : Place) (end inner : ℕ) (behind : List Node)
    → trees_in text (Listed at end inner ∷ behind) ≡ a_list (place_of at) end (trees_in text (take inner behind)) (trees_in text (drop inner behind))
list_in text at end inner behind =
    let items = enough text (length behind) (length (take inner behind)) (take inner behind) (omega (arith, length-take inner behind)) (omega arith) in
    let rest = enough text (length behind) (length (drop inner behind)) (drop inner behind) (omega (arith, length-drop inner behind)) (omega arith) in
    λ i. a_list (place_of at) end (items i) (rest i)

-- the first node, and those behind it
pub node_split : (nodes : List Node) (first : Node) → 1 ≤ length nodes → nodes ≡ get_or nodes 0 first ∷ take (length nodes - 1) (drop 1 nodes)
node_split nodes first some = drop-cons nodes 0 first (omega arith) ∙ ap (λ rest. get_or nodes 0 first ∷ rest) (sym (take_rest nodes 1))

-- how many words, strings and lists there are
abbrev pub tree_size : Trees → ℕ
tree_size none = 0
tree_size (a_word at bytes rest) = tree_size rest + 1
tree_size (a_string at bytes rest) = tree_size rest + 1
tree_size (a_list at end items rest) = tree_size items + tree_size rest + 1

pub size-upto : (text : List ℕ) (n : ℕ) (nodes : List Node) → tree_size (trees_upto text n nodes) ≤ length nodes
size-upto text zero nodes = omega arith
size-upto text (suc n) [] = omega arith
size-upto text (suc n) (Word at len ∷ behind) = omega (arith, size-upto text n behind)
size-upto text (suc n) (String at len ∷ behind) = omega (arith, size-upto text n behind)
size-upto text (suc n) (Listed at end inner ∷ behind) =
    omega (arith, size-upto text n (take inner behind), size-upto text n (drop inner behind), length-take inner behind, length-drop inner behind)

-- trees one behind the other are no more than all trees
pub count-size : (trees : Trees) → tree_count trees ≤ tree_size trees
count-size none = omega arith
count-size (a_word at bytes rest) = omega (arith, count-size rest)
count-size (a_string at bytes rest) = omega (arith, count-size rest)
count-size (a_list at end items rest) = omega (arith, count-size rest)

pub count-nodes : (text : List ℕ) (nodes : List Node) → tree_count (trees_in text nodes) ≤ length nodes
count-nodes text nodes = omega (arith, count-size (trees_in text nodes), size-upto text (length nodes) nodes)

tree-size : (t : Tree) (rest : Trees) → tree_size (tree_then t rest) ≡ tree_size (tree_then t none) + tree_size rest
tree-size (trees.Word w) rest = let n : ℕ = tree_size rest in let e : n + 1 ≡ 1 + n = omega arith in e
tree-size (trees.String w) rest = let n : ℕ = tree_size rest in let e : n + 1 ≡ 1 + n = omega arith in e
tree-size (trees.List at end items) rest =
    let m : ℕ = tree_size (trees_of items) in
    let n : ℕ = tree_size rest in
    let e : m + n + 1 ≡ (m + 0 + 1) + n = omega arith in
    e

some-size : (t : Tree) → 1 ≤ tree_size (tree_then t none)
some-size (trees.Word w) = omega arith
some-size (trees.String w) = omega arith
some-size (trees.List at end items) = omega arith

-- the first of trees is no more than all of them, and those behind it are fewer
pub size_first : (all : Trees) (t : Tree) (rest : Trees) → all ≡ tree_then t rest → tree_size (tree_then t none) ≤ tree_size all
size_first all t rest is = let e : tree_size all ≡ tree_size (tree_then t rest) = ap tree_size is in omega (arith, e, tree-size t rest)

pub size_behind : (all : Trees) (t : Tree) (rest : Trees) → all ≡ tree_then t rest → tree_size rest + 1 ≤ tree_size all
size_behind all t rest is = let e : tree_size all ≡ tree_size (tree_then t rest) = ap tree_size is in omega (arith, e, tree-size t rest, some-size t)
