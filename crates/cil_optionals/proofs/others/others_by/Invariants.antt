use Rattle.cil_optionals.proofs.Common.{◌≡◌, List, Placed, permissions_in, AreOthersTo, HavePermissions, IsReady}
use Rattle.cil_optionals.proofs.others.others_by.Given as goal

-- so many rows
abbrev pub invariant-loop-i : goal.invariant-loop-i
invariant-loop-i g l = record {
  others : (all : List Placed) → IsReady l.policy l.joined.modules.items all → HavePermissions all (permissions_in l.fn.permissions.listed.now) → AreOthersTo all l.policy.rows.items l.i l.i l.needs.items;
  listed : l.permissions.listed ≡ l.fn.permissions.listed;
  joined : l.permissions.joined ≡ l.fn.permissions.joined;
}
