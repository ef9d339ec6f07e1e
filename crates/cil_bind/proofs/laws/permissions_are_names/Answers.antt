use Rattle.cil_bind.proofs.WrittenLemmas.{written-names}
use Rattle.cil_bind.proofs.laws.permissions_are_names.Goals as goal

pub returns : goal.returns
returns c = written-names
