use Rattle.std.proofs.Common.{◌≡◌, length, Some, slice_get, refl}
use Rattle.std.proofs.lemmas.Option.{slice_get_read}
use Rattle.cil_dependence.proofs.EdgeLemmas.{edge-more}
use Rattle.cil_dependence.proofs.graph.add_edge.Goals as goal

pub returns-clause-edges : goal.returns-clause-edges
returns-clause-edges g c =
    let graph = c.args.graph.now.items in
    let v = c.index_mut.result.now in
    let at : slice_get graph c.args.from ≡ Some v = slice_get_read graph (length graph) c.args.from v refl c.requires c.index_mut.ensures.value in
    edge-more graph c.args.from c.args.to v c.push.new.self at c.in_ok-push.ensures.items
