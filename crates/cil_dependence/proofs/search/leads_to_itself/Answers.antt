use Rattle.cil_dependence.proofs.Common.{◌≡◌, ◌<◌, true, false, ◌++◌, length, Some, slice_get, replicate, refl, sym, subst, arith, nil_from_length, slice_get_read}
use Rattle.cil_dependence.proofs.SearchLemmas.{extended, extended-empty, IsSearched, next-within, marked, searched-start, searched-skip, searched-step, searched-tells, search-less}
use Rattle.cil_dependence.proofs.search.leads_to_itself.Given as given
use Rattle.cil_dependence.proofs.search.leads_to_itself.Goals as goal
use Rattle.cil_dependence.proofs.search.leads_to_itself.Goals.{In-Some, In_ok-extend_from_slice-2}

-- the node that is taken from the open ones is one of the graph
next-inside : (g : given.Over) (c : In-Some g) → c.in-Some.next < length c.args.graph.now
next-inside g c = next-within c.args.graph.now c.args.node c.loop-next.fresh.items c.loop-next.open.items c.pop.new.self.items c.in-Some.next c.requires.nodes c.loop-next.invariant c.in-Some.ensures.items

-- and has a mark
next-marked : (g : given.Over) (c : In-Some g) → c.in-Some.next < length c.loop-next.fresh.items
next-marked g c = omega (arith, next-inside g c, c.loop-next.invariant.len)

next-low : (g : given.Over) (c : In-Some g) → c.in-Some.next < c.loop-next.fresh.len
next-low g c = let size : c.loop-next.fresh.len ≡ length c.loop-next.fresh.items = c.loop-next.fresh.ok.0 in omega (arith, next-marked g c, size)

-- the nodes that it has an edge to are opened
opened : (g : given.Over) (c : In_ok-extend_from_slice-2 g) → c.in-Some.next < length c.args.graph.now → (slice_get c.args.graph.now c.in-Some.next ≡ Some c.index-graph-next.result)
    × (c.extend_from_slice-then-index.new.self.items ≡ c.pop.new.self.items ++ c.index-graph-next.result.items)
opened g c within =
    let graph = c.args.graph.now in
    let to = c.index-graph-next.result in (
      slice_get_read graph (length graph) c.in-Some.next to refl within c.index-graph-next.is,
      extended c.pop.new.self.items c.deref-then-index.result.now to.items c.extend_from_slice-then-index.new.self.items c.in_ok-extend_from_slice-2.ensures.items c.deref-then-index.ensures.value,
    )

pub loop-next-init : goal.loop-next-init
loop-next-init g c =
    let graph = c.args.graph.now in
    let to = c.index-graph-node.result in
    let at : slice_get graph c.args.node ≡ Some to = slice_get_read graph (length graph) c.args.node to refl c.requires.node c.index-graph-node.is in
    let fresh : replicate (length graph) true ≡ c.in_ok-fresh.fresh.items = sym {b = replicate (length graph) true} (c.in_ok-fresh.ensures.items_if_clones_equal (λ y e. e)) in
    let items : to.items ≡ c.extend_from_slice.new.self.items =
    extended-empty c.new-open.result.items c.deref.result.now to.items c.extend_from_slice.new.self.items
    c.in_ok-extend_from_slice.ensures.items c.deref.ensures.value c.new-open.ensures.items in
    subst (λ l. IsSearched graph c.args.node l c.extend_from_slice.new.self.items) fresh (subst (IsSearched graph c.args.node (replicate (length graph) true)) items (searched-start graph c.args.node to at))

pub bounds-graph-next : goal.bounds-graph-next
bounds-graph-next g c = next-inside g (goal.at.bounds-graph-next g c).In-Some

pub offset_bounds-graph-next : goal.offset_bounds-graph-next
offset_bounds-graph-next g c = omega (arith, next-inside g (goal.at.offset_bounds-graph-next g c).In-Some)

pub index-requires : goal.index-requires
index-requires g c = next-low g (goal.at.index-requires g c).In-Some

pub index_mut-requires : goal.index_mut-requires
index_mut-requires g c = next-low g (goal.at.index_mut-requires g c).In-Some

pub loop-next-smaller-in-Continue-branch-3 : goal.loop-next-smaller-in-Continue-branch-3
loop-next-smaller-in-Continue-branch-3 g c =
    let fresh = c.loop-next.fresh.items in
    let next = c.in-Some.next in
    let at = goal.at.loop-next-smaller-in-Continue-branch-3 g c in
    let inside = next-marked g at.In-Some in
    let (there, more) = opened g at.In_ok-extend_from_slice-2 (next-inside g at.In-Some) in
    search-less c.args.graph.now fresh c.loop-next.open.items c.pop.new.self.items c.extend_from_slice-then-index.new.self.items next c.index-graph-next.result inside
    (marked fresh next c.index.result.now true inside c.index.ensures c.if-index.true) there c.in-Some.ensures.items more

pub loop-next-preserved-in-Continue-branch-3 : goal.loop-next-preserved-in-Continue-branch-3
loop-next-preserved-in-Continue-branch-3 g c =
    let at = goal.at.loop-next-preserved-in-Continue-branch-3 g c in
    let (there, more) = opened g at.In_ok-extend_from_slice-2 (next-inside g at.In-Some) in
    searched-step c.args.graph.now c.args.node c.loop-next.fresh.items c.loop-next.open.items c.pop.new.self.items c.extend_from_slice-then-index.new.self.items c.in-Some.next c.index-graph-next.result
    c.loop-next.invariant c.in-Some.ensures.items there more

pub loop-next-preserved : goal.loop-next-preserved
loop-next-preserved g c =
    let fresh = c.loop-next.fresh.items in
    let next = c.in-Some.next in
    searched-skip c.args.graph.now c.args.node fresh c.loop-next.open.items c.pop.new.self.items next c.loop-next.invariant c.in-Some.ensures.items
    (marked fresh next c.index.result.now false (next-marked g (goal.at.loop-next-preserved g c).In-Some) c.index.ensures c.if-index.false)

pub returns : goal.returns
returns g c =
    let length-is : c.loop-next.open.len ≡ length c.loop-next.open.items = c.loop-next.open.ok.0 in
    let none : length c.loop-next.open.items ≡ 0 = omega (arith, length-is, c.in_default.ensures.cases.0) in
    searched-tells c.args.graph.now c.args.node c.loop-next.fresh.items c.index-2.result.now
    (subst (IsSearched c.args.graph.now c.args.node c.loop-next.fresh.items) (nil_from_length c.loop-next.open.items none) c.loop-next.invariant) c.requires.node c.index-2.ensures
