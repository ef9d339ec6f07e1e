use Rattle.std.proofs.Common.{◌∙◌}
use Rattle.cil_rule_shifts.proofs.PermitLemmas.{found}
use Rattle.cil_rule_shifts.proofs.permit.has.Goals as goal

pub returns : goal.returns
returns c = c.is_ok.ensures.value ∙ found c.args.permits.now c.requires c.args.permit c.binary_search.result c.binary_search.ensures.bound c.binary_search.ensures.position
