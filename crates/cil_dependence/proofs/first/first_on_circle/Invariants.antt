use Rattle.std.proofs.Common.{ℕ, ◌<◌}
use Rattle.cil_dependence.specs.Graph.{Leads}
use Rattle.cil_dependence.proofs.first.first_on_circle.Given as goal

abbrev pub invariant-loop-node : goal.invariant-loop-node
invariant-loop-node g l = (other : ℕ) → other < l.node → Leads l.graph other other → ⊥
