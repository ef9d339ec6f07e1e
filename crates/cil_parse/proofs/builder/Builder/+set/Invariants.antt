use Rattle.std.proofs.Common.{◌+◌, ◌*◌, max, drop}
use Rattle.cil_text.specs.declared.statement.Expr.TheViews.{size-Expr}
use Rattle.cil_parse.proofs.BuilderLemmas.{GoesOver}
use Rattle.cil_parse.proofs.builder.Builder.+set.Given as goal

abbrev pub decreases-expr : goal.decreases-expr
decreases-expr g l = 2 * goal.size-expr g l

abbrev pub decreases-elements : goal.decreases-elements
decreases-elements g l = 2 * goal.size-elements g l + 1

abbrev pub decreases-opposite : goal.decreases-opposite
decreases-opposite g l = 2 * goal.size-opposite g l + 1

abbrev pub decreases-operation : goal.decreases-operation
decreases-operation g l = 2 * max (size-Expr g.row.A.Denot l.x.now) (size-Expr g.row.A.Denot l.y.now) + 1

abbrev pub invariant-elements-loop-element : goal.invariant-elements-loop-element
invariant-elements-loop-element g l = GoesOver l.initial.self l.self l.elements (drop l.element-index l.elements)
