use Rattle.cil_resolve.proofs.Common.{◌≡◌, List, length, take, Placed, IsOf, listed_names, HavePermissionsOf, AreNaming, naming}
use Rattle.cil_resolve.proofs.numbering.permission_numbers.Given as goal

abbrev pub invariant-loop-k : goal.invariant-loop-k
invariant-loop-k g l = record {
  long : length l.permissions.items ≡ length l.bound.policy.now.names;
  noted : (policy : List Placed) → IsOf l.bound policy → AreNaming policy l.naming → HavePermissionsOf l.bound.policy.now.names l.names (listed_names (take l.k (naming policy))) l.permissions.items;
}
