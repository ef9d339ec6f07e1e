use Rattle.std.proofs.Common.{ℕ, ◌<◌, ◌≤◌, get_or}
use Rattle.cil_dependence.specs.Graph.{IsEdge}
use Rattle.cil_dependence.proofs.first.never_rises.Given as goal

abbrev pub invariant-loop-node : goal.invariant-loop-node
invariant-loop-node g l = (a : ℕ) → a < l.node → (b : ℕ) → IsEdge l.graph a b → get_or l.ranks b 0 ≤ get_or l.ranks a 0
