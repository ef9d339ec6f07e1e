use Rattle.cil_resolve.proofs.MeansLemmas.{means-consistent}
use Rattle.cil_resolve.proofs.laws.meanings_are_consistent.Goals as goal

pub returns : goal.returns
returns g = λ policy kept meaning apart means. means-consistent policy kept meaning apart means
