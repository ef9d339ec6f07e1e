use Rattle.cil_store_specs.proofs.OneStore.{meaning-same}
use Rattle.cil_store.proofs.laws.one_meaning.Goals as goal

pub returns : goal.returns
returns g = meaning-same
