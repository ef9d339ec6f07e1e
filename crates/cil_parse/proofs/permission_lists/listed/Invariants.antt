use Rattle.std.proofs.Common.{◌≡◌, [], take}
use Rattle.cil_parse.specs.PermissionLists.{permission_texts}
use Rattle.cil_parse.proofs.permission_lists.listed.Given as goal

abbrev pub invariant-loop-i : goal.invariant-loop-i
invariant-loop-i g l = l.lists ≡ (permission_texts (take l.i l.rows) (take l.i l.words.0), [])
