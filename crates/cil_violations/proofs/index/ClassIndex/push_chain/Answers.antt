use Rattle.cil_violations.proofs.Common.{◌∙◌, ◌<◌, ◌+◌, length, refl, sym, subst, arith, same_Some, slice_get_read, slice_get_within, links_to}
use Rattle.cil_violations.specs.declared.index.Link.{Link}
use Rattle.cil_violations.proofs.IndexLemmas.{IsLeft, left-all, left-more, left-there}
use Rattle.cil_violations.proofs.index.ClassIndex.push_chain.Goals as goal

pub index-link-requires : goal.index-link-requires
index-link-requires g c =
    let links = c.args.self.now.links in
    let (ns, chain) = c.requires in
    let (x, at, low) = left-there links.items c.args.list.now.items ns c.loop-next.list.items c.in-Some.at (subst (IsLeft links.items c.args.list.now.items ns c.loop-next.list.items) c.in-Some.is (c.loop-next.invariant ns chain)) in
    let within = slice_get_within links.items c.in-Some.at x at in
    omega (arith, within, links.ok.0)

pub loop-next-smaller : goal.loop-next-smaller
loop-next-smaller g c =
    let links = c.args.self.now.links.items in
    let (ns, chain) = c.requires in
    let (x, at, low) = left-there links c.args.list.now.items ns c.loop-next.list.items c.in-Some.at (subst (IsLeft links c.args.list.now.items ns c.loop-next.list.items) c.in-Some.is (c.loop-next.invariant ns chain)) in
    let here = slice_get_read links (length links) c.in-Some.at c.index-link.result.now refl (slice_get_within links c.in-Some.at x at) c.index-link.ensures in
    let same = same_Some x c.index-link.result.now (sym at ∙ here) in
    let below = subst (λ (y : Link). links_to y.next < c.in-Some.at + 1) same (omega (arith, low)) in
    subst (λ o. links_to c.index-link.result.now.next < links_to o) (sym c.in-Some.is) (omega (arith, below))

pub loop-next-preserved : goal.loop-next-preserved
loop-next-preserved g c = λ ns chain.
    let links = c.args.self.now.links.items in
    let old = c.args.list.now.items in
    let left = subst (IsLeft links old ns c.loop-next.list.items) c.in-Some.is (c.loop-next.invariant ns chain) in
    let (x, at, low) = left-there links old ns c.loop-next.list.items c.in-Some.at left in
    let here = slice_get_read links (length links) c.in-Some.at c.index-link.result.now refl (slice_get_within links c.in-Some.at x at) c.index-link.ensures in
    subst (λ l. IsLeft links old ns l c.index-link.result.now.next) (sym c.in_ok-push.ensures.items) (left-more links old ns c.loop-next.list.items c.in-Some.at c.index-link.result.now here left)

pub returns : goal.returns
returns g c = λ ns chain. left-all c.args.self.now.links.items c.args.list.now.items ns c.loop-next.list.items c.loop-next.next c.in_default.is (c.loop-next.invariant ns chain)
