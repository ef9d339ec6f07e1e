use Rattle.cil_check.proofs.Common.{◌≡◌, List, Placed, is_unset, words_in, Word, WordExpr, attribute_set, IsSeen, IsNoted}
use Rattle.cil_check.proofs.AskedLemmas.{first_from}
use Rattle.cil_check.proofs.checker.Checker.unset_leaf.Given as goal

-- the first that is unset stands no earlier
abbrev pub invariant-loop-k : goal.invariant-loop-k
invariant-loop-k g l = (policy : List Placed) (s : Placed) (attribute : Word) (expr : WordExpr) → IsNoted l.self policy → IsSeen l.seen policy s → s.form ≡ attribute_set attribute expr
    → first_from (is_unset policy s.namespace) 1 (words_in s.form) ≡ first_from (is_unset policy s.namespace) l.k (words_in s.form)
