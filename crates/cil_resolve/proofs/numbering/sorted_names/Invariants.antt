use Rattle.cil_resolve.proofs.Common.{◌≡◌, List, map, take, Placed, distinct, IsOf, full_name_of, names_of, AreNaming, naming}
use Rattle.cil_resolve.proofs.numbering.sorted_names.Given as goal

abbrev pub invariant-loop-k : goal.invariant-loop-k
invariant-loop-k g l = (policy : List Placed) → IsOf l.bound policy → AreNaming policy l.naming → l.full_names.0 ≡ map full_name_of (naming policy) → l.names ≡ distinct (names_of (take l.k (naming policy)))
