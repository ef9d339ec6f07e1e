use Rattle.cil_resolve.proofs.SetNameLemmas.{names-in-order, names-the-same}
use Rattle.cil_resolve.proofs.laws.resolved_sets_are_in_order.Goals as goal

pub returns-clause-in_order : goal.returns-clause-in_order
returns-clause-in_order g c =
    let r = c.args.resolved.now in
    names-in-order r.modules.items r.names.items r.sets.sets.items (record { rise = r.ordered; below = r.sets_within }) r.sets.order.items r.sets.ordered

pub returns-clause-the_same : goal.returns-clause-the_same
returns-clause-the_same g c =
    let r = c.args.resolved.now in
    names-the-same r.modules.items r.names.items r.sets.sets.items r.sets.order.items r.sets.ordered
