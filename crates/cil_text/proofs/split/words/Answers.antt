use Rattle.std.proofs.Common.{sym, subst}
use Rattle.cil_text.specs.Image.{trees_of, tree_then}
use Rattle.cil_text.proofs.WordLists.{AreSoFar, words_next, words_all, words_none, not_words}
use Rattle.cil_text.proofs.split.words.Goals as goal

pub returns-in_default-tree : goal.returns-in_default-tree
returns-in_default-tree g c =
    let trees = trees_of c.args.trees in
    let tree = c.in-Some.tree in
    let rest = trees_of c.in-Some.behind in
    words_none trees (tree_then tree rest) c.loop-tree.words.items
    (subst (λ rest. AreSoFar trees rest c.loop-tree.words.items) c.in-Some.ensures c.loop-tree.invariant) (not_words tree rest c.in_default-tree.not-Word)

pub loop-tree-preserved : goal.loop-tree-preserved
loop-tree-preserved g c =
    let trees = trees_of c.args.trees in
    let rest = trees_of c.in-Some.behind in
    subst (AreSoFar trees rest) (sym c.in_ok-push.ensures.items)
    (words_next trees rest c.loop-tree.words.items c.in-Some.tree c.in-Word.word c.in-Word.is
    (subst (λ rest. AreSoFar trees rest c.loop-tree.words.items) c.in-Some.ensures c.loop-tree.invariant))

pub returns : goal.returns
returns g c =
    let trees = trees_of c.args.trees in
    words_all trees c.loop-tree.words.items (subst (λ rest. AreSoFar trees rest c.loop-tree.words.items) c.in_default.ensures c.loop-tree.invariant)
