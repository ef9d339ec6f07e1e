use Rattle.cil_specs.specs.Kept.{is_within}
use Rattle.cil_specs.proofs.FaultWords.{contains-filtered}
use Rattle.cil_bind.proofs.laws.kept_permissions_are_names.Goals as goal

pub returns : goal.returns
returns c = λ set policy names s there. names s (contains-filtered (is_within set) policy s there)
