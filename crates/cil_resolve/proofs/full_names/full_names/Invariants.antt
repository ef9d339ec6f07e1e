use Rattle.cil_resolve.proofs.Common.{◌≡◌, [], List, map, take, Placed, IsOf, full_name_of, AreNaming, naming}
use Rattle.cil_resolve.proofs.full_names.full_names.Given as goal

abbrev pub invariant-loop-k : goal.invariant-loop-k
invariant-loop-k g l = record {
  closed : l.names.1 ≡ [];
  named : (policy : List Placed) → IsOf l.bound policy → AreNaming policy l.naming → l.names ≡ (map full_name_of (take l.k (naming policy)), []);
}
