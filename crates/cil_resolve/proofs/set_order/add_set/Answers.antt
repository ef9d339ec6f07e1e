use Rattle.std.proofs.Common.{◌∙◌, ◌+◌, ap, length, sym, subst, take}
use Rattle.cil_resolve.specs.SetOrder.{names_in}
use Rattle.cil_resolve.proofs.SetOrderLemmas.{HasNamed, named-all, named-next, named-skip, type-apart}
use Rattle.cil_resolve.proofs.set_order.add_set.Goals as goal
use Rattle.cil_resolve.proofs.set_order.add_set.Goals.{in-Attribute+in_ok-add_edge, in_default}

pub loop-element-preserved : goal.loop-element-preserved
loop-element-preserved g c = record {
  nodes = elim c.match-element.branch [
    | in-Attribute+in_ok-add_edge w ↦ ap (λ v. length v.items) w.graph-is ∙ w.in_ok-add_edge.ensures.nodes ∙ c.loop-element.invariant.nodes
    | in_default w ↦ ap (λ v. length v.items) w.graph-is ∙ c.loop-element.invariant.nodes
  ];
  edges =
      (let read = c.names_of-element-items.result.now in
      let names = names_in c.args.set.now in
      let from = c.args.set.now.attribute in
      let i = c.loop-element.element-index in
      elim c.match-element.branch [
        | in-Attribute+in_ok-add_edge w ↦
            subst (λ v. HasNamed from (take (i + 1) names) c.args.graph.now.items v.items) (sym w.graph-is)
            (named-next from w.in-Attribute.to i _ read names c.args.graph.now.items c.loop-element.graph.items w.add_edge.new.graph.items c.names_of-element-items.ensures c.loop-element-test.true w.in-Attribute.is
            w.in_ok-add_edge.ensures.edges c.loop-element.invariant.edges)
        | in_default w ↦
            subst (λ v. HasNamed from (take (i + 1) names) c.args.graph.now.items v.items) (sym w.graph-is)
            (named-skip from i _ _ read names c.args.graph.now.items c.loop-element.graph.items c.names_of-element-items.ensures c.loop-element-test.true w.in_default.is
            (type-apart w.in_default.field-0) c.loop-element.invariant.edges)
      ]);
}

pub returns-clause-edges : goal.returns-clause-edges
returns-clause-edges g c =
    named-all c.args.set.now c.loop-element.element-index c.names_of-element-items.result.now c.args.graph.now.items c.loop-element.graph.items c.names_of-element-items.ensures c.loop-element-test.false
    c.loop-element.invariant.edges
