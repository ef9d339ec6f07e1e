use Rattle.cil_store.proofs.CountedPolicyLemmas.{settled}
use Rattle.cil_store.proofs.counted_policy.settle.Goals as goal

pub returns-clause-counters : goal.returns-clause-counters
returns-clause-counters g c = settled c.args.next c.args.counters.now c.settle.new.self c.requires c.settle.ensures
