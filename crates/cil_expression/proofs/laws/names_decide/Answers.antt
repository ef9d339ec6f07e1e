use Rattle.cil_expression.proofs.HoldsLemmas.{holds-agree}
use Rattle.cil_expression.proofs.laws.names_decide.Goals as goal

pub returns : goal.returns
returns g c = holds-agree
