use Rattle.cil_expression.proofs.HoldsLemmas.{holds-bound}
use Rattle.cil_expression.proofs.laws.names_bound.Goals as goal

pub returns : goal.returns
returns g c = holds-bound
