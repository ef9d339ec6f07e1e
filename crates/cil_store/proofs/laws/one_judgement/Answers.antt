use Rattle.cil_store_specs.proofs.OneAtOnce.{next-same}
use Rattle.cil_store.proofs.laws.one_judgement.Goals as goal

pub returns : goal.returns
returns g = next-same
