use Rattle.cil_dependence.proofs.WalkLemmas.{order-straight}
use Rattle.cil_dependence.proofs.order.order_is_straight.Goals as goal

pub returns : goal.returns
returns g c = order-straight c.args.graph.now c.args.order.now c.requires.order c.requires.nodes
