use Rattle.cil_store.proofs.MeantLemmas.{run-meant}
use Rattle.cil_store.proofs.NothingLemmas.{none-meant}
use Rattle.cil_store.proofs.laws.stores_mean_something.Goals as goal

pub returns : goal.returns
returns g = record { empty = none-meant; run = run-meant }
