use Rattle.cil_resolve.proofs.Common.{take, AreGathered}
use Rattle.cil_resolve.proofs.gathering.gathered.Given as goal

-- what the statements so far give
abbrev pub invariant-loop-statement : goal.invariant-loop-statement
invariant-loop-statement g l = AreGathered (take l.statement-index l.statements) l.numbers l.lists.items
