use Rattle.cil_counters.proofs.CountedLemmas.{settled-before, settled-now}
use Rattle.cil_part_tests.proofs.counters.keep.Goals as goal

pub returns-clause-now : goal.returns-clause-now
returns-clause-now c = settled-now c.args.policy.now c.args.counters.now c.settle.new.self c.requires c.settle.ensures

pub returns-clause-before : goal.returns-clause-before
returns-clause-before c = settled-before c.args.policy.now c.args.counters.now c.settle.new.self c.requires c.settle.ensures
