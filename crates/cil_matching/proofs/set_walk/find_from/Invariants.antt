use Rattle.std.proofs.Common.{IfSome}
use Rattle.cil_matching.specs.Compared.{AreCompared}
use Rattle.cil_matching.proofs.set_walk.find_from.Given as goal

-- the modules that were compared last
abbrev pub invariant-loop-j : goal.invariant-loop-j
invariant-loop-j g l = IfSome l.known (AreCompared l.old l.new)
