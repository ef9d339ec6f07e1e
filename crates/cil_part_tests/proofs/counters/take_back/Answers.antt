use Rattle.cil_counters.proofs.CountedLemmas.{back-before, back-now}
use Rattle.cil_part_tests.proofs.counters.take_back.Goals as goal

pub returns-clause-now : goal.returns-clause-now
returns-clause-now c = back-now c.args.policy.now c.args.counters.now c.undo.new.self c.requires c.undo.ensures

pub returns-clause-before : goal.returns-clause-before
returns-clause-before c = back-before c.args.policy.now c.args.counters.now c.undo.new.self c.requires c.undo.ensures
