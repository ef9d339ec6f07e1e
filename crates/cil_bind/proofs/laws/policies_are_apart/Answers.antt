use Rattle.cil_bind.proofs.WrittenLemmas.{written-apart}
use Rattle.cil_bind.proofs.laws.policies_are_apart.Goals as goal

pub returns : goal.returns
returns c = written-apart
