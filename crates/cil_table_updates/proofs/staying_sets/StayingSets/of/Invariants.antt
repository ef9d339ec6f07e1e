use Rattle.cil_table_updates.specs.Staying.{AreStaying}
use Rattle.cil_table_updates.proofs.staying_sets.StayingSets.of.Given as goal

-- what is known holds
abbrev pub invariant-loop-j : goal.invariant-loop-j
invariant-loop-j g l = AreStaying l.old l.new l.answers.items
