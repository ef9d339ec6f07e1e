use Rattle.cil_store_specs.proofs.OneAtOnce.{at-once-same}
use Rattle.cil_store.proofs.laws.one_judgement_at_once.Goals as goal

pub returns : goal.returns
returns g = at-once-same
