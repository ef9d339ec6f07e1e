use Rattle.cil_specs.proofs.KeptLemmas.{kept-one}
use Rattle.cil_resolve.proofs.laws.kept_is_one.Goals as goal

pub returns : goal.returns
returns g = λ policy kept others are are'. kept-one policy kept others are are'
