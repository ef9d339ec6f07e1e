use Rattle.cil_store_specs.proofs.PolicyOf.{policy-of-apart}
use Rattle.cil_store.proofs.laws.policies_are_apart.Goals as goal

pub returns : goal.returns
returns g = λ store policy is. policy-of-apart store policy is
