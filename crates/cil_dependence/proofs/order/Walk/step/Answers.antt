use Rattle.std.proofs.Common.{◌≡◌, ◌<◌, length, ◌∙◌, get_or, refl, arith}
use Rattle.std.specs.Vec.{with_item}
use Rattle.cil_dependence.specs.Graph.{IsEdge}
use Rattle.cil_dependence.specs.declared.order.State.TheVariants.{New}
use Rattle.cil_dependence.proofs.StepLemmas.{edge-within, read-is, step-circle, step-enter, step-leave, step-pass, top-left, top-next, top-within}
use Rattle.cil_dependence.proofs.order.Walk.step.Given as given
use Rattle.cil_dependence.proofs.order.Walk.step.Goals as goal
use Rattle.cil_dependence.proofs.order.Walk.step.Goals.{After-index-2, After-index-next}

-- the node that the edge leads to
next-inside : (g : given.Over) (c : After-index-next g) → IsEdge c.args.graph.now c.args.node c.index-next.result.now × (c.index-next.result.now < length c.args.self.now.states.items)
next-inside g c =
    top-next c.args.graph.now c.args.self.now c.args.node c.requires.walk c.requires.node c.index.result.now c.in-Some.n c.index-next.result.now c.index-graph-node.result
    c.requires.nodes c.index.ensures c.in-Some.ensures c.index-graph-node.is c.index-next.ensures

-- its state, as it was read
next-state : (g : given.Over) (c : After-index-2 g) → c.index-next.result.now < length c.args.self.now.states.items → get_or c.args.self.now.states.items c.index-next.result.now New ≡ c.index-2.result.now
next-state g c inside = read-is c.args.self.now.states.items c.index-next.result.now c.index-2.result.now New inside c.index-2.ensures

pub returns-in_default : goal.returns-in_default
returns-in_default g c =
    step-leave c.args.graph.now c.args.self.now c.args.node c.requires.walk c.requires.node c.leave.new.self c.index.result.now c.index.ensures c.in_default.ensures
    c.in_ok-leave.ensures.states c.in_ok-leave.ensures.left c.in_ok-leave.ensures.path c.in_ok-leave.ensures.order

pub offset_bounds-graph-node : goal.offset_bounds-graph-node
offset_bounds-graph-node g c = let within = top-within c.args.graph.now c.args.self.now c.args.node c.requires.walk c.requires.node in omega (arith, within)

pub bounds-graph-node : goal.bounds-graph-node
bounds-graph-node g c = top-within c.args.graph.now c.args.self.now c.args.node c.requires.walk c.requires.node

pub index-next-requires : goal.index-next-requires
index-next-requires g c =
    let to = c.index-graph-node.result in
    let low = edge-within c.args.graph.now c.args.self.now c.args.node c.requires.walk c.requires.node c.index.result.now c.in-Some.n to c.index.ensures c.in-Some.ensures c.index-graph-node.is in
    let size : to.len ≡ length to.items = to.ok.0 in
    omega (arith, low, size)

pub index-requires-2 : goal.index-requires-2
index-requires-2 g c =
    let inside = (next-inside g (goal.at.index-requires-2 g c).After-index-next).1 in
    let size : c.args.self.now.states.len ≡ length c.args.self.now.states.items = c.args.self.now.states.ok.0 in
    omega (arith, inside, size)

pub enter-requires : goal.enter-requires
enter-requires g c = (next-inside g (goal.at.enter-requires g c).After-index-next).1

pub returns-in-Open : goal.returns-in-Open
returns-in-Open g c =
    let at = goal.at.returns-in-Open g c in
    let seen = next-inside g at.After-index-next in
    step-circle c.args.graph.now c.args.self.now c.args.node c.requires.walk c.requires.node c.index-next.result.now seen.0 (next-state g at.After-index-2 seen.1 ∙ c.in-Open.is)

pub index_mut-requires : goal.index_mut-requires
index_mut-requires g c =
    let walk = c.args.self.now in
    let within = top-left c.args.graph.now walk c.args.node c.requires.walk c.requires.node in
    let size : walk.left.len ≡ length walk.left.items = walk.left.ok.0 in
    omega (arith, within, size)

pub returns-in_ok-enter-in-New : goal.returns-in_ok-enter-in-New
returns-in_ok-enter-in-New g c =
    let next = c.index-next.result.now in
    let at = goal.at.returns-in_ok-enter-in-New g c in
    let seen = next-inside g at.After-index-next in
    let entered = c.in_ok-enter-in-New.ensures in
    step-enter c.args.graph.now c.args.self.now c.args.node c.requires.walk c.requires.node c.enter.new.self next seen.0 (c.requires.nodes c.args.node next seen.0) (next-state g at.After-index-2 seen.1 ∙ c.in-New.is)
    entered.states entered.left entered.path entered.order

pub returns-in-Done : goal.returns-in-Done
returns-in-Done g c =
    let graph = c.args.graph.now in
    let walk = c.args.self.now in
    let at = goal.at.returns-in-Done g c in
    let to = c.index-graph-node.result in
    let low = edge-within graph walk c.args.node c.requires.walk c.requires.node c.index.result.now c.in-Some.n to c.index.ensures c.in-Some.ensures c.index-graph-node.is in
    let is = next-state g at.After-index-2 (next-inside g at.After-index-next).1 ∙ c.in-Done.is in
    step-pass graph walk c.args.node c.requires.walk c.requires.node (with_item walk.left c.args.node c.in-Some.n) c.index.result.now c.in-Some.n c.index-next.result.now to
    c.index.ensures c.in-Some.ensures c.index-graph-node.is low c.index-next.ensures is refl
