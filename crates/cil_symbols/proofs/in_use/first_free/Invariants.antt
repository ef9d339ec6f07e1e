use Rattle.cil_symbols.specs.InUse.{AreUsedBelow}
use Rattle.cil_symbols.proofs.in_use.first_free.Given as goal

-- each place before this one has a mark
abbrev pub invariant-loop-place : goal.invariant-loop-place
invariant-loop-place l = AreUsedBelow l.fn.marks l.place
