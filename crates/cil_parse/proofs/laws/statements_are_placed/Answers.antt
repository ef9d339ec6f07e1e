use Rattle.cil_parse.proofs.AroundLemmas.{placed-flat}
use Rattle.cil_parse.proofs.laws.statements_are_placed.Goals as goal

pub returns : goal.returns
returns c = placed-flat
