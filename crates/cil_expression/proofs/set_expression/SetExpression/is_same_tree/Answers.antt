use Rattle.cil_expression.proofs.Common.{◌≡◌, ◌&&◌, Contains, ap, sym, subst, ◌∙◌, leaves, all_same, same_node, are_same, nodes_of}
use Rattle.cil_expression.specs.Expression.{set_expr_in}
use Rattle.cil_expression.proofs.SameLemmas.{pointwise-nodes}
use Rattle.cil_expression.proofs.ListedLemmas.{leaves-listed, listed-one, same-listed, plain-differs, differs-plain}
use Rattle.cil_expression.proofs.set_expression.SetExpression.is_same_tree.Goals as goal
use Rattle.cil_expression.proofs.set_expression.SetExpression.is_same_tree.Goals.{then-nodes, else-nodes}

pub returns-in-Some-Some : goal.returns-in-Some-Some
returns-in-Some-Some g c pairs answers =
    let names = c.in-Some-Some.names.now in
    let others = c.in-Some-Some.others.now in
    let mine = sym (leaves-listed names) ∙ ap leaves (sym c.in-Some-Some.ensures) in
    let theirs = sym (leaves-listed others) ∙ ap leaves (sym c.in-Some-Some.ensures') in
    c.are_same_names.ensures pairs (λ a b r ca cb. answers a b r (subst (λ l. Contains l a) mine ca) (subst (λ l. Contains l b) theirs cb))
    ∙ same-listed pairs names others ∙ (λ i. are_same pairs (sym c.in-Some-Some.ensures i) (sym c.in-Some-Some.ensures' i))

pub returns-in-None-None : goal.returns-in-None-None
returns-in-None-None g c pairs answers =
    let e = set_expr_in c.args.self.now in
    let f = set_expr_in c.args.other.now in
    let mine = c.nodes.ensures in
    let others = c.nodes-in-None-None.ensures in
    let nodes : c.eq-nodes.result ≡ all_same same_node (nodes_of e) (nodes_of f) =
    c.eq-nodes.ensures ∙ pointwise-nodes c.nodes.result.now c.nodes-in-None-None.result.now ∙ (λ i. all_same same_node (mine i) (others i)) in
    elim c.if-nodes.branch [
      | then-nodes w ↦ (let x = w.names.ensures in
          let y = w.names-then-nodes.ensures in
          w.result-is ∙ w.are_same_names-then-nodes.ensures pairs (λ a b r ca cb. answers a b r (subst (λ l. Contains l a) x ca) (subst (λ l. Contains l b) y cb))
          ∙ (λ i. all_same pairs (x i) (y i)) ∙ ap (λ b. b && all_same pairs (leaves e) (leaves f)) (sym w.if-nodes.true ∙ nodes))
      | else-nodes w ↦ w.result-is ∙ w.if-nodes.false ∙ ap (λ b. b && all_same pairs (leaves e) (leaves f)) (sym w.if-nodes.false ∙ nodes)
    ]

pub returns-in-Some-None : goal.returns-in-Some-None
returns-in-Some-None g c pairs answers =
    let e = set_expr_in c.args.self.now in
    sym (plain-differs pairs e (set_expr_in c.args.other.now) (listed-one e _ c.in-Some-None.ensures) c.in-Some-None.ensures')

pub returns : goal.returns
returns g c pairs answers =
    let f = set_expr_in c.args.other.now in
    sym (differs-plain pairs (set_expr_in c.args.self.now) f c.in-None-Some.ensures (listed-one f _ c.in-None-Some.ensures'))
