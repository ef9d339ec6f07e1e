use Rattle.cil_check.proofs.Common.{◌≡◌, List, Contains, Some, Word, Placed, permissions_in, AreNumbersOf, names_of, IsSeen, IsNoted, named_class}
use Rattle.cil_check.proofs.AskedLemmas.{first_from}
use Rattle.cil_check.proofs.MissingLemmas.{lacks}
use Rattle.cil_check.proofs.checker.Checker.lacking.Given as goal

-- the first that is lacking stands no earlier
abbrev pub invariant-loop-word : goal.invariant-loop-word
invariant-loop-word g l = (policy : List Placed) (s : Placed) (word : Word) → IsNoted l.self policy → IsSeen l.seen policy s → AreNumbersOf l.self.bound.policy.now.names l.seen.words.now (names_of l.seen.«module».now)
    → Contains policy s → named_class s.form ≡ Some word → first_from (lacks policy s word) 0 (permissions_in s.form) ≡ first_from (lacks policy s word) l.word-index (permissions_in s.form)
