use Rattle.cil_specs.proofs.KeptLemmas.{kept-good}
use Rattle.cil_resolve.proofs.laws.kept_is_good.Goals as goal

pub returns : goal.returns
returns g = λ policy kept apart are. kept-good policy kept apart are
