use Rattle.cil_store_specs.proofs.BatchLemmas.{none-accepted, one-short}
use Rattle.cil_store.proofs.laws.batches_of_one_and_none.Goals as goal

pub returns : goal.returns
returns g = record { one = one-short; none = none-accepted }
