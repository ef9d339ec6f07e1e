use Rattle.cil_check.proofs.Common.{◌≡◌, ◌<◌, List, Some, length, drop, Placed, classes, has_name, permissions_of, word_at, IsFirstOf, IsNoted, list_at, names_listed}
use Rattle.std.proofs.Common.{slice_get}
use Rattle.cil_check.proofs.checker.Checker.has_permission.Given as goal

-- the class has the permission where a common that is left lists it
abbrev pub invariant-loop-common : goal.invariant-loop-common
invariant-loop-common g l = (policy : List Placed) (s : Placed) → IsNoted l.self policy → slice_get policy l.class ≡ Some s → IsFirstOf classes policy l.class → l.word < length l.self.bound.policy.now.names
    → has_name (permissions_of policy s) (word_at l.self.bound.policy.now.names l.word) ≡ has_name (names_listed policy (drop l.common-index (list_at l.self.inherited l.class))) (word_at l.self.bound.policy.now.names l.word)
