use Rattle.cil_resolve.proofs.EvaluateLemmas.{reach-bound}
use Rattle.cil_resolve.proofs.laws.reach_is_a_bound.Goals as goal

pub returns : goal.returns
returns g = λ meaning expr t none each. reach-bound meaning expr t none each
