use Rattle.cil_expression.proofs.SameExprLemmas.{same-holds}
use Rattle.cil_expression.proofs.laws.same_hold_the_same.Goals as goal

pub returns : goal.returns
returns g c one other same value others lead = same-holds same value others lead one other
