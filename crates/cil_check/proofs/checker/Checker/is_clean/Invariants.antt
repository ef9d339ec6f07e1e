use Rattle.cil_check.proofs.Common.{List, Placed, IsNoted}
use Rattle.cil_check.specs.Recent.{IsKnown}
use Rattle.cil_check.proofs.CleanLemmas.{AreCleanBelow}
use Rattle.cil_check.proofs.checker.Checker.is_clean.Given as goal

-- the statements gone over are clean, and what is known holds
abbrev pub invariant-loop-i : goal.invariant-loop-i
invariant-loop-i g l = record {
  clean : (policy : List Placed) → IsNoted l.self policy → AreCleanBelow policy l.i;
  known : (policy : List Placed) → IsNoted l.self policy → IsKnown l.self policy l.known;
}
