use Rattle.cil_resolve.proofs.lowering.Lowering.add_rule_of_set.Goals as goal

pub returns : goal.returns
returns g c policy s is at of knows =
    record { rule = c.in_ok-rule.rule; pushed = c.in_ok-push.ensures.items; is = c.in_ok-rule.ensures policy s is at of knows }
