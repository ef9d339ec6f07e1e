use Rattle.std.proofs.Common.{◌≡◌, ◌<◌, length, refl, sym, slice_get, Some, All, get_or, subst, true≢false}
use Rattle.std.proofs.lemmas.Option.{slice_get_read}
use Rattle.cil_dependence.proofs.RanksLemmas.{falls-straight}
use Rattle.cil_dependence.proofs.first.is_on_circle.Goals as goal

pub returns-then-falls : goal.returns-then-falls
returns-then-falls g c =
    let graph = c.args.graph.now in
    let ranks = c.args.ranks.now in
    let node = c.args.node in
    let to = c.index-graph-node.result in
    let at : slice_get graph node ≡ Some to = slice_get_read graph (length graph) node to refl c.requires.node c.index-graph-node.is in
    let down = subst (All (λ next. get_or ranks next 0 < get_or ranks node 0)) c.deref.ensures.value (c.falls.ensures c.if-falls.true) in
    (λ is. absurd (true≢false (sym is)), λ leads. absurd (falls-straight graph ranks node to (c.requires.ordered c.if-ordered.true) at down leads))
