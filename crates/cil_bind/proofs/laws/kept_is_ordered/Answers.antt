use Rattle.cil_specs.specs.Kept.{is_within}
use Rattle.cil_bind.proofs.OrderedLemmas.{ordered-filtered}
use Rattle.cil_bind.proofs.laws.kept_is_ordered.Goals as goal

pub returns : goal.returns
returns c = λ set policy ordered. ordered-filtered (is_within set) policy ordered
