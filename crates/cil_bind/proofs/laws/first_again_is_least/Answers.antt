use Rattle.cil_bind.proofs.TwiceLemmas.{least-again}
use Rattle.cil_bind.proofs.laws.first_again_is_least.Goals as goal

pub returns : goal.returns
returns c = least-again
