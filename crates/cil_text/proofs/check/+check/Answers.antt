use Rattle.cil_text.proofs.Common.{◌+◌, ◌++◌, drop, subst, sym, ap, ◌∙◌, leaves, in_role, expr_of, role_of, Checks}
use Rattle.cil_text.proofs.Rows.{union_of}
use Rattle.cil_text.proofs.FirstBad.{GoesOn, goes_first, goes_more, checks_error, checks_rest}
use Rattle.cil_text.proofs.CheckLemmas.{of_expr, of_exprs, exprs_from, of_both}
use Rattle.cil_text.proofs.check.+check.Goals as goal

pub check_elements-returns-in_err-check_element : goal.check_elements-returns-in_err-check_element
check_elements-returns-in_err-check_element g t c =
    let role = role_of c.args.role in
    let elements = c.args.elements.now in
    let i = c.loop-element.element-index in
    let element = c.element-item.result in
    checks_error (of_exprs role elements) (of_expr role element) (of_exprs role (drop (i + 1) elements)) c.from_residual.result c.in_err-check_element.field-0.0
    (subst (GoesOn (of_exprs role elements)) (exprs_from role elements i element c.loop-element-test.true c.element-item.is) c.loop-element.invariant) c.in_err-check_element.ensures c.from_residual.ensures.1

pub check_elements-loop-element-preserved : goal.check_elements-loop-element-preserved
check_elements-loop-element-preserved g t c =
    let role = role_of c.args.role in
    let elements = c.args.elements.now in
    let i = c.loop-element.element-index in
    let element = c.element-item.result in
    goes_more (of_exprs role elements) (of_expr role element) (of_exprs role (drop (i + 1) elements))
    (subst (GoesOn (of_exprs role elements)) (exprs_from role elements i element c.loop-element-test.true c.element-item.is) c.loop-element.invariant) c.in_ok-check_element.ensures

pub check_expr-returns-in-Union : goal.check_expr-returns-in-Union
check_expr-returns-in-Union g t c =
    let role = role_of c.args.role in
    let elements = c.in-Union.elements in
    subst (λ e. Checks (in_role role (leaves e)) c.check_elements.result) (sym (ap expr_of c.in-Union.is ∙ union_of elements))
    (subst (λ items. Checks (of_exprs role items) c.check_elements.result) c.deref-in-Union.ensures.value c.check_elements.ensures)

pub check_operands-returns-in_err-check_expr : goal.check_operands-returns-in_err-check_expr
check_operands-returns-in_err-check_expr g t c =
    let role = role_of c.args.role in
    let x = c.args.x.now in
    let y = c.args.y.now in
    let all = in_role role (leaves (expr_of x) ++ leaves (expr_of y)) in
    checks_error all (of_expr role x) (of_expr role y) c.from_residual.result c.in_err-check_expr.field-0.0 (subst (GoesOn all) (of_both role x y) (goes_first all)) c.in_err-check_expr.ensures c.from_residual.ensures.1

pub check_operands-returns : goal.check_operands-returns
check_operands-returns g t c =
    let role = role_of c.args.role in
    let x = c.args.x.now in
    let y = c.args.y.now in
    let all = in_role role (leaves (expr_of x) ++ leaves (expr_of y)) in
    checks_rest all (of_expr role y) c.check_expr-2.result (goes_more all (of_expr role x) (of_expr role y) (subst (GoesOn all) (of_both role x y) (goes_first all)) c.in_ok-check_expr.ensures) c.check_expr-2.ensures
