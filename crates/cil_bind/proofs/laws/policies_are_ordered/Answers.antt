use Rattle.cil_bind.proofs.OrderedLemmas.{joined-ordered}
use Rattle.cil_bind.proofs.laws.policies_are_ordered.Goals as goal

pub returns : goal.returns
returns c = joined-ordered
