use Rattle.cil_resolve.proofs.lowering.Lowering.add_any_rule_of_class.Goals as goal

pub returns-clause-rule : goal.returns-clause-rule
returns-clause-rule g c policy s is at of knows =
    record { rule = c.in_ok-rule.rule; pushed = c.in_ok-push.ensures.items; is = c.in_ok-rule.ensures.rule policy s is at of knows }
