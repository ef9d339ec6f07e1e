use Rattle.cil_store_specs.proofs.OneStore.{policy-refusal-same}
use Rattle.cil_store.proofs.laws.one_policy_refusal.Goals as goal

pub returns : goal.returns
returns g = policy-refusal-same
