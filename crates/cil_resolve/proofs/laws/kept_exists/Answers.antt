use Rattle.cil_specs.proofs.ExistsLemmas.{kept-exists}
use Rattle.cil_resolve.proofs.laws.kept_exists.Goals as goal

pub returns : goal.returns
returns g = λ policy apart. kept-exists policy apart
