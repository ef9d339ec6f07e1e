use Rattle.cil_store_specs.proofs.OneStore.{no-meaning}
use Rattle.cil_store.proofs.laws.no_meaning_beside_a_refusal.Goals as goal

pub returns : goal.returns
returns g = no-meaning
