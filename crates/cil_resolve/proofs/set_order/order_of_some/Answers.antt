use Rattle.cil_resolve.proofs.Common.{◌∙◌, ◌↔◌, ◌<◌, ℕ, All, length, ap, subst, sym, IsEdge, attributes_in, IsNext, IsSetOrder}
use Rattle.cil_dependence.specs.Dependence.{IsDependence}
use Rattle.std.proofs.Common.{AllPairs}
use Rattle.cil_dependence.specs.Items.{AreEachOnce, ComesBefore}
use Rattle.cil_dependence.proofs.ItemsLemmas.{order-length, order-once}
use Rattle.cil_resolve.proofs.SetOrderLemmas.{attributes-below, both-ok, graph-nodes, no-circle, set-order}
use Rattle.cil_resolve.proofs.set_order.order_of_some.Goals as goal

pub dependence-requires : goal.dependence-requires
dependence-requires g c =
    let edges = subst (λ l. (a b : ℕ) → IsEdge l a b ↔ IsNext c.args.sets.now a b) (sym c.deref.ensures.value) c.in_ok-graph.ensures.edges in
    record { nodes = graph-nodes c.args.sets.now c.deref.result.now edges c.args.names (ap length c.deref.ensures.value ∙ c.in_ok-graph.ensures.nodes) c.requires.within }

pub unreachable-requires : goal.unreachable-requires
unreachable-requires g c =
    let edges = subst (λ l. (a b : ℕ) → IsEdge l a b ↔ IsNext c.args.sets.now a b) (sym c.deref.ensures.value) c.in_ok-graph.ensures.edges in
    let first = subst (IsDependence c.deref.result.now) c.in_default.is c.in_ok-order.ensures in
    no-circle c.args.sets.now c.deref.result.now edges c.in_default.field-0 c.requires.straight first.is

pub items_in_order-requires-clause-order : goal.items_in_order-requires-clause-order
items_in_order-requires-clause-order g c =
    let is = subst (IsDependence c.deref.result.now) c.in-Order.is c.in_ok-order.ensures in
    subst (λ order. AreEachOnce (length order) order) (sym c.deref-2.ensures.value) (order-once c.deref.result.now c.in-Order.order.items is)

pub items_in_order-requires-clause-nodes : goal.items_in_order-requires-clause-nodes
items_in_order-requires-clause-nodes g c =
    let is = subst (IsDependence c.deref.result.now) c.in-Order.is c.in_ok-order.ensures in
    let long = ap length c.deref-2.ensures.value ∙ order-length c.deref.result.now c.in-Order.order.items is ∙ ap length c.deref.ensures.value ∙ c.in_ok-graph.ensures.nodes in
    subst (λ l. All (λ n. n < length c.deref-2.result.now) l) (sym (c.deref-3.ensures.value ∙ c.in_ok-attributes.ensures))
    (subst (λ n. All (λ x. x < n) (attributes_in c.args.sets.now)) (sym long) (attributes-below c.args.names c.args.sets.now c.requires.within))

pub returns : goal.returns
returns g c =
    let sets = c.args.sets.now in
    let graph = c.deref.result.now in
    let order = c.in-Order.order.items in
    let is = subst (IsDependence graph) c.in-Order.is c.in_ok-order.ensures in
    let edges = subst (λ l. (a b : ℕ) → IsEdge l a b ↔ IsNext sets a b) (sym c.deref.ensures.value) c.in_ok-graph.ensures.edges in
    let below = subst (λ n. All (λ x. x < n) (attributes_in sets)) (sym (ap length c.deref.ensures.value ∙ c.in_ok-graph.ensures.nodes)) (attributes-below c.args.names sets c.requires.within) in
    let attributes = c.deref-3.ensures.value ∙ c.in_ok-attributes.ensures in
    both-ok c.items_in_order.result (λ v. AreEachOnce (length c.deref-3.result.now) v.items) (λ v. AllPairs (ComesBefore c.deref-2.result.now c.deref-3.result.now) v.items) (λ v. IsSetOrder sets v.items)
    (λ v once behind. set-order sets graph edges order v.items is below
    (subst (λ l. AreEachOnce (length l) v.items) attributes once)
    (subst (λ l. AllPairs (ComesBefore order l) v.items) attributes (subst (λ l. AllPairs (ComesBefore l c.deref-3.result.now) v.items) c.deref-2.ensures.value behind)))
    c.items_in_order.ensures.once c.items_in_order.ensures.behind
