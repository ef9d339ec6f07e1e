use Rattle.cil_store_specs.proofs.LimitLemmas.{empty-within, taken-within, run-within}
use Rattle.cil_store.proofs.laws.stores_are_within_limits.Goals as goal

pub returns : goal.returns
returns g = record { empty = empty-within; taken = taken-within; run = run-within }
