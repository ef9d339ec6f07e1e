use Rattle.std.proofs.Common.{ap, ◌∙◌}
use Rattle.cil_resolve.specs.Numbers.{given_in}
use Rattle.cil_rule_shifts.specs.Permits.{has_permit}
use Rattle.cil_rule_reach.proofs.PermitLemmas.{listed-has}
use Rattle.cil_rule_reach.proofs.permits.rule_permits.Goals as goal

pub returns-clause-same : goal.returns-clause-same
returns-clause-same g c d p =
    c.put_in_order.ensures.same d p ∙ ap (λ l. has_permit l d p) c.in_ok-list.ensures
    ∙ listed-has c.args.numbering.now.symbols (given_in c.args.rule.now.permissions) d p
