use Rattle.cil_bind.proofs.TwiceLemmas.{first-fault-again}
use Rattle.cil_bind.proofs.laws.first_again_is_first_fault.Goals as goal

pub returns : goal.returns
returns c = first-fault-again
