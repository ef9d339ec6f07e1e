use Rattle.cil_needs.proofs.DependentLemmas.{AreOpenedTo}
use Rattle.cil_needs.proofs.dependents.reopen.Given as goal

abbrev pub invariant-loop-place : goal.invariant-loop-place
invariant-loop-place g l = AreOpenedTo l.dependents l.start l.end l.place l.fn.waiting.items l.waiting.items
