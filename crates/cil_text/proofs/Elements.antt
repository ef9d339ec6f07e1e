-- The elements of an expression, one after the other.
use Rattle.cil_text.proofs.Common.{◌≡◌, true, List, [], ◌∷◌, ◌++◌, Some, None, refl, sym, ap, subst, Trees, none, a_word, a_string, a_list, nothing, elements, Expresses, Lists, string_spells, place_of, tree_then, trees_of, expr_of, is_nothing, is_one, exprs_of, SpellsExpr, Tree, Expr}
use Rattle.cil_specs.specs.Expr as spec
use Rattle.cil_specs.proofs.ExprSame.{expresses_same, word_is, list_rest, none_expresses}
use Rattle.cil_reader.specs.declared.tree.Tree.TheVariants.{Word, String, List as Listed}

-- a tree is something
pub tree_some : (t : Tree) (rest : Trees) → tree_then t rest ≡ none → ⊥
tree_some (Word w) rest h = absurd cc
tree_some (String w) rest h = absurd cc
tree_some (Listed at end items) rest h = absurd cc

-- the elements, and then those of the expression
abbrev pub joined : {A : Type 0} → List (Expr A) → spec.WordExpr → spec.WordExpr
joined [] e = e
joined (x ∷ xs) e = elements (expr_of x) (joined xs e)

joined-push : {A : Type 0} → (xs : List (Expr A)) (x : Expr A) (e : spec.WordExpr) → joined (xs ++ x ∷ []) e ≡ joined xs (elements (expr_of x) e)
joined-push [] x e = refl
joined-push (y ∷ ys) x e = ap (elements (expr_of y)) (joined-push ys x e)

joined-nothing : {A : Type 0} → (xs : List (Expr A)) → joined xs nothing ≡ exprs_of xs
joined-nothing [] = refl
joined-nothing (x ∷ xs) = ap (elements (expr_of x)) (joined-nothing xs)

-- the found elements are those of all the trees in front of the rest
pub record HasFound {A : Type 0} (all rest : Trees) (found : List (Expr A)) : Type 0 where
  pub goes_on : (e : spec.WordExpr) → Lists rest e → Lists all (joined found e)
  pub comes_from : (e : spec.WordExpr) → Lists all e → (more : spec.WordExpr) × Lists rest more

pub found_first : {A : Type 0} → (all : Trees) → HasFound {A = A} all all []
found_first all = record { goes_on = λ e h. h; comes_from = λ e h. (e, h) }

more_behind : {A : Type 0} → (t : Tree) (rest : Trees) (x : Expr A) → SpellsExpr (tree_then t) (Some x) → (e : spec.WordExpr) → Lists (tree_then t rest) e → (more : spec.WordExpr) × Lists rest more
more_behind t rest x spells nothing h = absurd (tree_some t rest h)
more_behind t rest x spells (elements y more) h =
    let same = expresses_same (expr_of x) (tree_then t rest) rest (spells rest) y h.0 h.1 in
    (more, subst (λ trees. Lists trees more) (sym same.1) h.2)
more_behind t rest x spells _ h = absurd h

pub found_next : {A : Type 0} → (all rest : Trees) (found : List (Expr A)) (t : Tree) (x : Expr A) → HasFound all (tree_then t rest) found → SpellsExpr (tree_then t) (Some x) → HasFound all rest (found ++ x ∷ [])
found_next all rest found t x so_far spells = record {
  goes_on = λ e h. subst (Lists all) (sym (joined-push found x e)) (so_far.goes_on (elements (expr_of x) e) (rest, spells rest, h));
  comes_from = λ e h. let p = so_far.comes_from e h in more_behind t rest x spells p.0 p.1;
}

none_behind : (A : Type 0) (t : Tree) (rest : Trees) → SpellsExpr {A = A} (tree_then t) None → (e : spec.WordExpr) → Lists (tree_then t rest) e → ⊥
none_behind A t rest spells nothing h = tree_some t rest h
none_behind A t rest spells (elements y more) h = spells y rest h.0 h.1
none_behind A t rest spells _ h = absurd h

pub found_none : {A : Type 0} → (all rest : Trees) (found : List (Expr A)) (t : Tree) → HasFound all (tree_then t rest) found → SpellsExpr {A = A} (tree_then t) None → (e : spec.WordExpr) → Lists all e → ⊥
found_none {A} all rest found t so_far spells e h = let p = so_far.comes_from e h in none_behind A t rest spells p.0 p.1

pub found_all : {A : Type 0} → (all : Trees) (found : List (Expr A)) → HasFound all none found → Lists all (exprs_of found)
found_all all found so_far = subst (Lists all) (joined-nothing found) (so_far.goes_on nothing refl)

-- what follows the expression of a tree
pub rest_is : (t : Tree) (rest after : Trees) (e : spec.WordExpr) → Expresses (tree_then t rest) e after → rest ≡ after
rest_is (Word w) rest after e h = (word_is (place_of w.at) w.text.now rest after e h).1
rest_is (String w) rest after e h = absurd (string_spells (place_of w.at) w.text.now rest after e h)
rest_is (Listed at end items) rest after e h = list_rest (place_of at) end (trees_of items) rest after e h

-- trees that are one expression are one tree
pub one_tree : (trees : Trees) (e : spec.WordExpr) → Expresses trees e none → is_one trees ≡ true
one_tree none e h = absurd (none_expresses e none h)
one_tree (a_word at bytes rest) e h = ap is_nothing (word_is at bytes rest none e h).1
one_tree (a_string at bytes rest) e h = absurd (string_spells at bytes rest none e h)
one_tree (a_list at end items rest) e h = ap is_nothing (list_rest at end items rest none e h)
