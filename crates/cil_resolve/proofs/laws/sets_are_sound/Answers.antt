use Rattle.cil_specs.proofs.MeansLemmas.{means-sound}
use Rattle.cil_resolve.proofs.laws.sets_are_sound.Goals as goal

pub returns : goal.returns
returns g = λ policy kept meaning apart means. means-sound policy kept meaning apart means
