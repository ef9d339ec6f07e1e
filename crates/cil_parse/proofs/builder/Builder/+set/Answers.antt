use Rattle.cil_parse.proofs.Common.{◌≡◌, ◌++◌, ◌∷◌, [], subst, sym, ap, ◌∙◌, OnOk, arith, drop_all, opposite, both, either, one_of, leaves, expr_of, expr_nodes, AddsExpr}
use Rattle.cil_text.specs.Expr.{exprs_of}
use Rattle.cil_text.proofs.Rows.{union_of}
use Rattle.cil_parse.specs.declared.row.SetNode.TheVariants.{Not}
use Rattle.cil_parse.proofs.BuilderLemmas.{GoesOver, adds-then, goes-none, goes-next, goes-end}
use Rattle.cil_parse.proofs.builder.Builder.+set.Goals as goal

pub expr-returns-in-All : goal.expr-returns-in-All
expr-returns-in-All g t c = subst (λ e. OnOk c.node.result (AddsExpr c.args.self.now c.node.new.self (expr_of e))) (sym c.in-All.is) c.node.ensures

pub expr-returns-in-Name : goal.expr-returns-in-Name
expr-returns-in-Name g t c = subst (λ e. OnOk c.name.result (AddsExpr c.args.self.now c.name.new.self (expr_of e))) (sym c.in-Name.is) c.name.ensures

pub expr-returns-in-Not : goal.expr-returns-in-Not
expr-returns-in-Not g t c =
    let is : expr_of c.args.expr.now ≡ opposite (expr_of c.deref.result.now) = ap expr_of c.in-Not.is ∙ ap (λ x. opposite (expr_of x)) (sym c.deref.ensures) in
    subst (λ e. OnOk c.opposite.result (AddsExpr c.args.self.now c.opposite.new.self e)) (sym is) c.opposite.ensures

pub expr-returns-in-And : goal.expr-returns-in-And
expr-returns-in-And g t c =
    let is : expr_of c.args.expr.now ≡ both (expr_of c.deref-in-And.result.now) (expr_of c.deref-in-And-2.result.now) =
    ap expr_of c.in-And.is ∙ (λ i. both (expr_of (sym c.deref-in-And.ensures i)) (expr_of (sym c.deref-in-And-2.ensures i))) in
    subst (λ e. OnOk c.operation.result (AddsExpr c.args.self.now c.operation.new.self e)) (sym is) c.operation.ensures

pub expr-returns-in-Or : goal.expr-returns-in-Or
expr-returns-in-Or g t c =
    let is : expr_of c.args.expr.now ≡ either (expr_of c.deref-in-Or.result.now) (expr_of c.deref-in-Or-2.result.now) =
    ap expr_of c.in-Or.is ∙ (λ i. either (expr_of (sym c.deref-in-Or.ensures i)) (expr_of (sym c.deref-in-Or-2.ensures i))) in
    subst (λ e. OnOk c.operation-in-Or.result (AddsExpr c.args.self.now c.operation-in-Or.new.self e)) (sym is) c.operation-in-Or.ensures

pub expr-returns-in-Xor : goal.expr-returns-in-Xor
expr-returns-in-Xor g t c =
    let is : expr_of c.args.expr.now ≡ one_of (expr_of c.deref-in-Xor.result.now) (expr_of c.deref-in-Xor-2.result.now) =
    ap expr_of c.in-Xor.is ∙ (λ i. one_of (expr_of (sym c.deref-in-Xor.ensures i)) (expr_of (sym c.deref-in-Xor-2.ensures i))) in
    subst (λ e. OnOk c.operation-in-Xor.result (AddsExpr c.args.self.now c.operation-in-Xor.new.self e)) (sym is) c.operation-in-Xor.ensures

pub expr-returns-in-Union : goal.expr-returns-in-Union
expr-returns-in-Union g t c =
    subst (λ e. OnOk c.elements.result (AddsExpr c.args.self.now c.elements.new.self e)) (sym (ap expr_of c.in-Union.is ∙ union_of c.in-Union.elements))
    (subst (λ items. OnOk c.elements.result (AddsExpr c.args.self.now c.elements.new.self (exprs_of items))) c.deref-in-Union.ensures.value c.elements.ensures)

pub opposite-returns : goal.opposite-returns
opposite-returns g t c =
    let x = expr_of c.args.x.now in
    adds-then c.args.self.now c.node.new.self c.expr.new.self [] (leaves x) (Not ∷ []) (expr_nodes x) c.in_ok-node.ensures c.in_ok-expr.ensures

pub operation-expr-requires-2 : goal.operation-expr-requires-2
operation-expr-requires-2 g t c κs within = (omega (arith, c.decreases), within)

pub operation-returns : goal.operation-returns
operation-returns g t c =
    let x = expr_of c.args.x.now in
    let y = expr_of c.args.y.now in
    adds-then c.args.self.now c.node.new.self c.expr-2.new.self [] (leaves x ++ leaves y) (c.args.node ∷ []) (expr_nodes x ++ expr_nodes y) c.in_ok-node.ensures
    (adds-then c.node.new.self c.expr.new.self c.expr-2.new.self (leaves x) (leaves y) (expr_nodes x) (expr_nodes y) c.in_ok-expr.ensures c.in_ok-expr-2.ensures)

pub elements-loop-element-init : goal.elements-loop-element-init
elements-loop-element-init g t c = goes-none c.args.self.now c.args.elements.now

pub elements-loop-element-preserved : goal.elements-loop-element-preserved
elements-loop-element-preserved g t c =
    goes-next c.args.self.now c.loop-element.self c.node.new.self c.expr.new.self c.args.elements.now c.loop-element.element-index c.element-item.result c.loop-element-test.true c.element-item.is c.loop-element.invariant c.in_ok-node.ensures c.in_ok-expr.ensures

pub elements-returns : goal.elements-returns
elements-returns g t c =
    goes-end c.args.self.now c.loop-element.self c.node-2.new.self c.args.elements.now
    (subst (GoesOver c.args.self.now c.loop-element.self c.args.elements.now) (drop_all c.loop-element.element-index c.args.elements.now c.loop-element-test.false) c.loop-element.invariant) c.in_ok-node-2.ensures
