use Rattle.cil_store_specs.proofs.OneRun.{run-same}
use Rattle.cil_store.proofs.laws.one_run.Goals as goal

pub returns : goal.returns
returns g = run-same
