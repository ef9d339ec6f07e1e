use Rattle.cil_store_specs.proofs.StoreOrder.{empty-ordered, taken-ordered, run-ordered}
use Rattle.cil_store.proofs.laws.stores_are_in_order.Goals as goal

pub returns : goal.returns
returns g = record { empty = empty-ordered; taken = taken-ordered; run = run-ordered }
