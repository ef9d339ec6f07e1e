use Rattle.cil_resolve.proofs.laws.resolved_rules_permit.Goals as goal

pub returns : goal.returns
returns g c = c.args.resolved.now.permitted
