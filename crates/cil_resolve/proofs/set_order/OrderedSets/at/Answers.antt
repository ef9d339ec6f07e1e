use Rattle.std.proofs.Common.{◌∙◌, ◌<◌, length, sym}
use Rattle.std.proofs.lemmas.List.Elements.{recursion_from_All}
use Rattle.cil_resolve.proofs.SetOrderLemmas.{at-place}
use Rattle.cil_resolve.proofs.set_order.OrderedSets.at.Goals as goal

pub returns : goal.returns
returns g c =
    let sets = c.args.self.now.sets.items in
    let order = c.args.self.now.order.items in
    c.numbered.ensures ∙ sym (at-place sets order c.args.i (recursion_from_All (λ n. n < length sets) order c.args.self.now.ordered.within))
