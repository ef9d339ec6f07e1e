use Rattle.cil_store.proofs.Common.{filter, take, is_active, AreSharedOf}
use Rattle.cil_store.proofs.join.active_modules.Given as goal

abbrev pub invariant-loop-i : goal.invariant-loop-i
invariant-loop-i g l = AreSharedOf (filter (is_active l.store) (take l.i l.store.entries)) l.modules.items
