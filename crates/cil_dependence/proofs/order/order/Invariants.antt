use Rattle.std.proofs.Common.{◌≡◌, ℕ, ◌<◌, []}
use Rattle.cil_dependence.specs.Walk.{HasKnown, IsWalking}
use Rattle.cil_dependence.proofs.order.order.Given as goal

abbrev pub invariant-loop-root : goal.invariant-loop-root
invariant-loop-root g l = record {
  walk : IsWalking l.graph l.walk;
  path : l.walk.path.items ≡ [];
  known : (u : ℕ) → u < l.root → HasKnown l.walk.states.items u;
}
