use Rattle.cil_resolve.proofs.Common.{◌≡◌, ◌==◌, filter, take}
use Rattle.cil_specs.specs.Expr.{holds_by}
use Rattle.cil_expression.specs.Expression.{expr_in}
use Rattle.cil_resolve.proofs.statement_permissions.held.Given as goal

-- those of the permissions so far that the expression holds are listed
abbrev pub invariant-loop-number : goal.invariant-loop-number
invariant-loop-number g l = l.given.items ≡ filter (λ p. holds_by (λ q. p == q) (expr_in l.expression)) (take l.number-index l.permissions)
