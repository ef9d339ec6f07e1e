use Rattle.cil_resolve.proofs.ApartLemmas.{listed-apart, listed-few}
use Rattle.cil_resolve.proofs.laws.resolved_sets_are_apart.Goals as goal

pub returns-clause-apart : goal.returns-clause-apart
returns-clause-apart g c =
    let r = c.args.resolved.now in
    listed-apart r.modules.items r.names.items r.sets.sets.items r.apart r.sets.order.items r.sets.ordered

pub returns-clause-few : goal.returns-clause-few
returns-clause-few g c =
    let r = c.args.resolved.now in
    listed-few r.modules.items r.names.items r.sets.sets.items r.few r.sets.order.items r.sets.ordered
