use Rattle.cil_text.proofs.Common.{◌∙◌, sym, subst, true≢false, none, Expresses, put_same, trees_of, tree_then, word_of, expr_of, SpellsExpr}
use Rattle.cil_text.proofs.Elements.{one_tree}
use Rattle.cil_text.proofs.form.attribute_and_set.Goals as goal

pub returns-in_default-only_tree : goal.returns-in_default-only_tree
returns-in_default-only_tree g c attribute set expr h k =
    let rest = trees_of c.in-Some.rest in
    let same = put_same (word_of c.in-Some.attribute) attribute rest set (sym c.in-Some.ensures ∙ h) in
    true≢false (sym (one_tree rest expr (subst (λ set. Expresses set expr none) (sym same.1) k)) ∙ c.in_default-only_tree.ensures)

pub returns-in-Some-2 : goal.returns-in-Some-2
returns-in-Some-2 g c =
    let rest = trees_of c.in-Some.rest in
    let tree = c.in-Some-only_tree.set in
    let spelt = subst (SpellsExpr (tree_then tree)) c.in-Some-2.is c.in_ok-expr.ensures in
    (rest, c.in-Some.ensures, subst (λ set. Expresses set (expr_of c.in-Some-2.expr) none) (sym c.in-Some-only_tree.ensures) (spelt none))

pub returns-in-None : goal.returns-in-None
returns-in-None g c attribute set expr h k =
    let rest = trees_of c.in-Some.rest in
    let tree = c.in-Some-only_tree.set in
    let same = put_same (word_of c.in-Some.attribute) attribute rest set (sym c.in-Some.ensures ∙ h) in
    let other = subst (SpellsExpr (tree_then tree)) c.in-None.is c.in_ok-expr.ensures in
    other expr none none (subst (λ set. Expresses set expr none) (sym same.1 ∙ c.in-Some-only_tree.ensures) k)
