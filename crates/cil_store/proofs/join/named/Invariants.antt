use Rattle.std.proofs.Common.{◌≡◌, map, take}
use Rattle.std.specs.Rc.{rc_value}
use Rattle.cil_store.proofs.join.named.Given as goal

abbrev pub invariant-loop-module : goal.invariant-loop-module
invariant-loop-module g l =
    (map (λ m. m.name) (take l.module-index l.modules) ≡ map (λ n. n.name.now) l.named.items)
    × (map (λ m. rc_value m.«module») (take l.module-index l.modules) ≡ map (λ n. n.«module».now) l.named.items)
