use Rattle.cil_bind.proofs.Common.{is_within, once-filtered}
use Rattle.cil_bind.proofs.laws.kept_is_once.Goals as goal

pub returns : goal.returns
returns c = λ set policy once. once-filtered (is_within set) policy once
