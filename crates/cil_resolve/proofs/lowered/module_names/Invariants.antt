use Rattle.std.proofs.Common.{◌≡◌, map, take}
use Rattle.cil_resolve.proofs.lowered.module_names.Given as goal

abbrev pub invariant-loop-i : goal.invariant-loop-i
invariant-loop-i g l = l.names.items ≡ map (λ m. m.name.now) (take l.i l.joined.modules.items)
