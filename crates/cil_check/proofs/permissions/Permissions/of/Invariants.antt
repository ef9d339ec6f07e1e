use Rattle.cil_check.proofs.Common.{◌≡◌, [], List, take, Placed, IsOf, HaveWords}
use Rattle.cil_check.proofs.PermissionLemmas.{HaveListedBelow}
use Rattle.cil_check.proofs.permissions.Permissions.of.Given as goal

-- so many statements are taken up
abbrev pub invariant-loop-i : goal.invariant-loop-i
invariant-loop-i g l = record {
  listed : (policy : List Placed) → IsOf l.bound policy → HaveListedBelow l.bound.policy.now.names policy l.i l.permissions.listed.keys;
  open_list : l.permissions.words.1 ≡ [];
  words : (policy : List Placed) → IsOf l.bound policy → HaveWords l.bound.policy.now.names (take l.i policy) l.permissions.words.0;
}
