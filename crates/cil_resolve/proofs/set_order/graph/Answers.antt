use Rattle.std.proofs.Common.{◌<◌, ◌∙◌, sym, subst}
use Rattle.cil_resolve.proofs.SetOrderLemmas.{attribute-below, next-all, next-more}
use Rattle.cil_resolve.proofs.set_order.graph.Goals as goal

pub add_set-requires : goal.add_set-requires
add_set-requires g c =
    let set = c.set-item.result in
    subst (λ n. set.attribute < n) (sym c.loop-set.invariant.nodes)
    (attribute-below c.args.names c.args.sets.now set c.requires (c.loop-set.set-index, c.loop-set-test.true, sym c.set-item.is))

pub loop-set-preserved : goal.loop-set-preserved
loop-set-preserved g c = record {
  nodes = c.in_ok-add_set.ensures.nodes ∙ c.loop-set.invariant.nodes;
  edges = next-more c.args.sets.now c.loop-set.set-index c.set-item.result c.loop-set.graph.items c.add_set.new.graph.items c.loop-set-test.true c.set-item.is c.loop-set.invariant.edges c.in_ok-add_set.ensures.edges;
}

pub returns-clause-edges : goal.returns-clause-edges
returns-clause-edges g c = next-all c.args.sets.now c.loop-set.set-index c.loop-set.graph.items c.loop-set-test.false c.loop-set.invariant.edges
