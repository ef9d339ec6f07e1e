use Rattle.cil_dependence.proofs.Common.{◌≡◌, ℕ, length, refl, slice_get, Some, All, get_or, ◌≤◌, subst, below_more, slice_get_read, IsEdge}
use Rattle.cil_dependence.proofs.LeadsLemmas.{edges-all, node-edges}
use Rattle.cil_dependence.proofs.first.never_rises.Goals as goal

pub loop-node-preserved : goal.loop-node-preserved
loop-node-preserved g c =
    let graph = c.args.graph.now in
    let ranks = c.args.ranks.now in
    let node = c.loop-node.node in
    let to = c.index-graph-node.result in
    let at : slice_get graph node ≡ Some to = slice_get_read graph (length graph) node to refl c.loop-node-test.true c.index-graph-node.is in
    let down = subst (All (λ next. get_or ranks next 0 ≤ get_or ranks node 0)) c.deref.ensures.value (c.stays_down.ensures c.if-not-stays_down.false) in
    below_more (λ a. (b : ℕ) → IsEdge graph a b → get_or ranks b 0 ≤ get_or ranks a 0) node c.loop-node.invariant
    (node-edges graph (λ b. get_or ranks b 0 ≤ get_or ranks node 0) node to at down)

pub returns : goal.returns
returns g c =
    let ranks = c.args.ranks.now in
    λ is. edges-all c.args.graph.now (λ a b. get_or ranks b 0 ≤ get_or ranks a 0) c.loop-node.node c.loop-node-test.false c.loop-node.invariant
