use Rattle.cil_text.proofs.Common.{◌≡◌, ◌∙◌, ◌+◌, [], ◌∷◌, ◌++◌, ap, sym, subst, refl, inl, arith, codes, none, a_word, a_list, opposite, both, either, one_of, Expresses, true≢false, string_spells, union_spelt, union_is, no_not, no_and, no_or, no_xor, place_of, trees_of, tree_then, expr_of, operator_word, exprs_of, SpellsBoxed, SpellsExpr, SpellsElements, SpellsOperation, SpellsOne, SpellsTwo}
use Rattle.std.proofs.lemmas.Result.{IfOk-weaker}
use Rattle.std.proofs.lemmas.Slice.Eq.{bytes_eq-Decides}
use Rattle.cil_specs.proofs.ExprSame.{none_expresses}
use Rattle.cil_text.specs.declared.expr.Operator.TheVariants.{And, Or, Xor, Not}
use Rattle.cil_text.proofs.Rows.{union_of}
use Rattle.cil_reader.proofs.Nodes.{tree_size, size_first, size_behind}
use Rattle.cil_text.proofs.Elements.{rest_is, one_tree, HasFound, found_first, found_next, found_none, found_all}
use Rattle.cil_text.proofs.Spells.{operation_found, operation_misfit, all_found, spells_one}
use Rattle.cil_text.proofs.expr.+expression.Goals as goal

pub elements-loop-tree-init : goal.elements-loop-tree-init
elements-loop-tree-init g t c =
    let all = trees_of c.args.trees in
    record { found = subst (HasFound all all) (sym c.in_ok-elements.ensures.items) (found_first all); smaller = omega arith }

pub elements-returns-in-None : goal.elements-returns-in-None
elements-returns-in-None g t c =
    let trees = trees_of c.args.trees in
    let tree = c.in-Some.tree in
    found_none trees (trees_of c.in-Some.behind) c.loop-tree.elements.items tree (subst (λ rest. HasFound trees rest c.loop-tree.elements.items) c.in-Some.ensures c.loop-tree.invariant.found)
    (subst (SpellsExpr (tree_then tree)) c.in-None.is c.in_ok-element.ensures)

pub elements-loop-tree-preserved : goal.elements-loop-tree-preserved
elements-loop-tree-preserved g t c =
    let trees = trees_of c.args.trees in
    let tree = c.in-Some.tree in
    let rest = trees_of c.in-Some.behind in
    record {
      found = subst (HasFound trees rest) {x = c.loop-tree.elements.items ++ c.in-Some-2.element ∷ []} (sym c.in_ok-push-in-Some-2.ensures.items)
          (found_next trees rest c.loop-tree.elements.items tree c.in-Some-2.element (subst (λ rest. HasFound trees rest c.loop-tree.elements.items) c.in-Some.ensures c.loop-tree.invariant.found)
          (subst (SpellsExpr (tree_then tree)) c.in-Some-2.is c.in_ok-element.ensures));
      smaller = omega (arith, c.loop-tree.invariant.smaller, size_behind (trees_of c.loop-tree.rest) tree rest c.in-Some.ensures);
    }

pub elements-expression-requires : goal.elements-expression-requires
elements-expression-requires g t c κs within =
    (omega (arith, c.decreases, c.loop-tree.invariant.smaller, size_first (trees_of c.loop-tree.rest) c.in-Some.tree (trees_of c.in-Some.behind) c.in-Some.ensures), within)

pub elements-returns : goal.elements-returns
elements-returns g t c =
    let trees = trees_of c.args.trees in
    found_all trees c.loop-tree.elements.items (subst (λ rest. HasFound trees rest c.loop-tree.elements.items) c.in_default.ensures c.loop-tree.invariant.found)

pub expression-returns-then-is_all : goal.expression-returns-then-is_all
expression-returns-then-is_all g t c rest =
    let word = c.in-Word.word in
    let all : word.text.now ≡ codes "all" = (bytes_eq-Decides word.text.now (codes "all")).0 (sym c.is_all.ensures ∙ c.if-is_all.true) in
    inl (place_of word.at, ap (λ tree. tree_then tree rest) c.in-Word.is ∙ ap (λ text. a_word (place_of word.at) text rest) all)

pub expression-returns-in-String : goal.expression-returns-in-String
expression-returns-in-String g t c e rest after h =
    let word = c.in-String.field-0 in
    string_spells (place_of word.at) word.text.now rest after e (subst (λ tree. Expresses (tree_then tree rest) e after) c.in-String.is h)

pub expression-returns-in-List : goal.expression-returns-in-List
expression-returns-in-List g t c =
    let list = c.in-List in
    IfOk-weaker c.list_expression.result _ (SpellsExpr (tree_then c.args.tree))
    (λ found h. subst (λ front. SpellsExpr front found)
    (λ i rest. ap (λ tree. tree_then tree rest) (sym list.is) i)
    (h (place_of list.at) list.end)) c.list_expression.ensures

pub list_expression-operation-requires : goal.list_expression-operation-requires
list_expression-operation-requires g t c κs within =
    let all : tree_size (trees_of c.args.items) ≡ tree_size (trees_of c.in-Some.operands) + 1 = ap tree_size c.in-Some.ensures.1 in
    (omega (arith, c.decreases, all), within)

pub list_expression-returns-in-Some : goal.list_expression-returns-in-Some
list_expression-returns-in-Some g t c =
    let begins = c.in-Some.ensures in
    IfOk-weaker c.operation.result (SpellsOperation (operator_word c.in-Some.operator) (trees_of c.in-Some.operands)) _
    (λ found h at end. subst (λ items. SpellsExpr (a_list at end items) found) (sym begins.1) (h at begins.0 end)) c.operation.ensures

pub list_expression-returns-in-None : goal.list_expression-returns-in-None
list_expression-returns-in-None g t c at end e rest after h =
    let items = trees_of c.args.items in
    let other = subst (SpellsElements items) c.in-None.is c.in_ok-elements.ensures in
    other e (union_is at end items rest after e c.in_default.ensures h)

pub one_operand-returns-in_default : goal.one_operand-returns-in_default
one_operand-returns-in_default g t c e h = true≢false (sym (one_tree (trees_of c.args.operands) e h) ∙ c.in_default.ensures)

pub one_operand-returns : goal.one_operand-returns
one_operand-returns g t c =
    let operands = trees_of c.args.operands in
    let front = tree_then c.in-Some.x in
    IfOk-weaker c.operand.result (SpellsBoxed front) (SpellsOne operands) (spells_one front operands c.in-Some.ensures) c.operand.ensures

pub operation-returns-in-All : goal.operation-returns-in-All
operation-returns-in-All g t c = all_found c.args.operator (trees_of c.args.operands) c.then_some.result c.is_empty.result c.in-All.is c.is_empty.ensures c.then_some.ensures

pub operation-returns-in-Some : goal.operation-returns-in-Some
operation-returns-in-Some g t c =
    let operands = trees_of c.args.operands in
    operation_found c.args.operator Not operands (opposite (expr_of c.in-Some.x.value)) c.in-Not.is refl (subst (SpellsOne operands) c.in-Some.is c.in_ok-x-in-Not.ensures)

pub operation-returns-in-None : goal.operation-returns-in-None
operation-returns-in-None g t c =
    let operands = trees_of c.args.operands in
    let other = subst (SpellsOne operands) c.in-None.is c.in_ok-x-in-Not.ensures in
    operation_misfit c.args.operator Not operands c.in-Not.is (λ e. no_not operands e other)

pub operation-returns-in-Some-2 : goal.operation-returns-in-Some-2
operation-returns-in-Some-2 g t c =
    let operands = trees_of c.args.operands in
    operation_found c.args.operator And operands (both (expr_of c.in-Some-2.x.value) (expr_of c.in-Some-2.y.value)) c.in-And.is refl (subst (SpellsTwo operands) c.in-Some-2.is c.in_ok-x-in-And.ensures)

pub operation-returns-in-None-2 : goal.operation-returns-in-None-2
operation-returns-in-None-2 g t c =
    let operands = trees_of c.args.operands in
    let other = subst (SpellsTwo operands) c.in-None-2.is c.in_ok-x-in-And.ensures in
    operation_misfit c.args.operator And operands c.in-And.is (λ e. no_and operands e (λ x y p. other x y p.0 p.1 p.2))

pub operation-returns-in-Some-3 : goal.operation-returns-in-Some-3
operation-returns-in-Some-3 g t c =
    let operands = trees_of c.args.operands in
    operation_found c.args.operator Or operands (either (expr_of c.in-Some-3.x.value) (expr_of c.in-Some-3.y.value)) c.in-Or.is refl (subst (SpellsTwo operands) c.in-Some-3.is c.in_ok-x-in-Or.ensures)

pub operation-returns-in-None-3 : goal.operation-returns-in-None-3
operation-returns-in-None-3 g t c =
    let operands = trees_of c.args.operands in
    let other = subst (SpellsTwo operands) c.in-None-3.is c.in_ok-x-in-Or.ensures in
    operation_misfit c.args.operator Or operands c.in-Or.is (λ e. no_or operands e (λ x y p. other x y p.0 p.1 p.2))

pub operation-returns-in-Some-4 : goal.operation-returns-in-Some-4
operation-returns-in-Some-4 g t c =
    let operands = trees_of c.args.operands in
    operation_found c.args.operator Xor operands (one_of (expr_of c.in-Some-4.x.value) (expr_of c.in-Some-4.y.value)) c.in-Xor.is refl (subst (SpellsTwo operands) c.in-Some-4.is c.in_ok-x-in-Xor.ensures)

pub operation-returns-in-None-4 : goal.operation-returns-in-None-4
operation-returns-in-None-4 g t c =
    let operands = trees_of c.args.operands in
    let other = subst (SpellsTwo operands) c.in-None-4.is c.in_ok-x-in-Xor.ensures in
    operation_misfit c.args.operator Xor operands c.in-Xor.is (λ e. no_xor operands e (λ x y p. other x y p.0 p.1 p.2))

pub two_operands-returns-in_default : goal.two_operands-returns-in_default
two_operands-returns-in_default g t c x y second h k = none_expresses x second (subst (λ trees. Expresses trees x second) c.in_default.ensures h)

pub two_operands-returns-in_default-only_tree : goal.two_operands-returns-in_default-only_tree
two_operands-returns-in_default-only_tree g t c x y second h k =
    let rest = trees_of c.in-Some.rest in
    let same = rest_is c.in-Some.x rest second x (subst (λ trees. Expresses trees x second) c.in-Some.ensures h) in
    true≢false (sym (one_tree rest y (subst (λ rest. Expresses rest y none) (sym same) k)) ∙ c.in_default-only_tree.ensures)

pub two_operands-returns-in_default-3 : goal.two_operands-returns-in_default-3
two_operands-returns-in_default-3 g t c x y second h k =
    let rest = trees_of c.in-Some.rest in
    let last = c.in-Some-only_tree.y in
    let same = rest_is c.in-Some.x rest second x (subst (λ trees. Expresses trees x second) c.in-Some.ensures h) in
    let other = subst (SpellsBoxed (tree_then last)) c.in_default-3.is c.in_ok-y.ensures in
    other y none none (subst (λ trees. Expresses trees y none) (sym same ∙ c.in-Some-only_tree.ensures) k)

pub list_expression-returns-in-Some-2 : goal.list_expression-returns-in-Some-2
list_expression-returns-in-Some-2 g t c at end rest =
    let items = trees_of c.args.items in
    let elements = c.in-Some-2.elements in
    subst (λ e. Expresses (a_list at end items rest) e rest) (sym (union_of elements))
    (union_spelt at end items rest (exprs_of elements.items) c.in_default.ensures (subst (SpellsElements items) c.in-Some-2.is c.in_ok-elements.ensures))
