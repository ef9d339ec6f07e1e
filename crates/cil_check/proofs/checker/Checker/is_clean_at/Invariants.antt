use Rattle.cil_check.proofs.Common.{◌≡◌, List, Some, Placed, AreNumbersOf, names_of, IsSeen, IsNoted}
use Rattle.std.proofs.Common.{slice_get}
use Rattle.cil_check.proofs.CleanLemmas.{IsCleanOf}
use Rattle.cil_check.proofs.checker.Checker.is_clean_at.Given as goal

-- the kinds gone over have no faulty word at the statement
abbrev pub invariant-loop-kind : goal.invariant-loop-kind
invariant-loop-kind g l = (policy : List Placed) (s : Placed) → IsNoted l.self policy → IsSeen l.seen policy s → AreNumbersOf l.self.bound.policy.now.names l.seen.words.now (names_of l.seen.«module».now) → slice_get policy l.place ≡ Some s
    → IsCleanOf l.kind-index policy l.place s
