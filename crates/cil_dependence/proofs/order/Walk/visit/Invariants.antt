use Rattle.cil_dependence.specs.Walk.{HasKnown, IsWalking, StillKnows, steps_left}
use Rattle.cil_dependence.proofs.order.Walk.visit.Given as goal

abbrev pub invariant-loop-node : goal.invariant-loop-node
invariant-loop-node g l = record {
  walk : IsWalking l.graph l.self;
  rooted : HasKnown l.self.states.items l.root;
  known : StillKnows l.fn.self l.self;
}

abbrev pub decreases-loop-node : goal.decreases-loop-node
decreases-loop-node g l = steps_left l.self
