use Rattle.cil_check.proofs.Common.{◌≡◌, List, Some, take, fold, Placed, texts, distinct, with_name, own_permissions, AreNumbersOf, IsNoted, list_at, names_listed}
use Rattle.std.proofs.Common.{slice_get}
use Rattle.cil_check.proofs.checker.Checker.has_too_many.Given as goal

-- the first permissions of the class and of so many commons are counted
abbrev pub invariant-loop-common : goal.invariant-loop-common
invariant-loop-common g l = (policy : List Placed) (s : Placed) → IsNoted l.self policy → slice_get policy l.class ≡ Some s
    → AreNumbersOf l.self.bound.policy.now.names l.few
    (take 33 (fold with_name (distinct (texts (own_permissions s.form))) (names_listed policy (take l.common-index (list_at l.self.inherited l.class)))))
