use Rattle.cil_resolve.proofs.laws.resolved_rules_are_in_order.Goals as goal

pub returns : goal.returns
returns g c = c.args.resolved.now.rules_ordered
