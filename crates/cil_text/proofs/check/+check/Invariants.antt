use Rattle.cil_text.proofs.Common.{◌+◌, ◌*◌, max, drop, role_of}
use Rattle.cil_text.specs.declared.statement.Expr.TheViews.{size-Expr}
use Rattle.cil_text.proofs.FirstBad.{GoesOn}
use Rattle.cil_text.proofs.CheckLemmas.{of_exprs}
use Rattle.cil_text.proofs.check.+check.Given as goal

abbrev pub decreases-check_expr : goal.decreases-check_expr
decreases-check_expr g l = 3 * goal.size-check_expr g l

abbrev pub decreases-check_elements : goal.decreases-check_elements
decreases-check_elements g l = 3 * goal.size-check_elements g l + 2

abbrev pub decreases-check_element : goal.decreases-check_element
decreases-check_element g l = 3 * goal.size-check_element g l + 1

abbrev pub decreases-check_operands : goal.decreases-check_operands
decreases-check_operands g l = 3 * max (size-Expr g.row.A.Denot l.x.now) (size-Expr g.row.A.Denot l.y.now) + 1

abbrev pub invariant-check_elements-loop-element : goal.invariant-check_elements-loop-element
invariant-check_elements-loop-element g l = GoesOn (of_exprs (role_of l.role) l.elements) (of_exprs (role_of l.role) (drop l.element-index l.elements))
