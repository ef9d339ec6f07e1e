use Rattle.std.proofs.Common.{rules, ◌≡◌, ◌∙◌, ◌<◌, length, sym}
use Rattle.std.proofs.lemmas.List.Elements.{recursion_from_All}
use Rattle.cil_resolve.proofs.SetOrderLemmas.{at-length}
use Rattle.cil_resolve.proofs.set_order.OrderedSets.len.Goals as goal

pub returns : goal.returns
returns g c =
    let sets = c.args.self.now.sets.items in
    let order = c.args.self.now.order.items in
    let long : c.len.result ≡ length order = search rules in
    long ∙ sym (at-length sets order (recursion_from_All (λ n. n < length sets) order c.args.self.now.ordered.within))
