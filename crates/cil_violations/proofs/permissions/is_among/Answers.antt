use Rattle.std.proofs.Common.{◌∙◌}
use Rattle.cil_violations.proofs.PermissionLemmas.{found}
use Rattle.cil_violations.proofs.permissions.is_among.Goals as goal

pub returns : goal.returns
returns c = c.is_ok.ensures.value ∙ found c.args.others.now c.requires c.args.permission c.binary_search.result c.binary_search.ensures.bound c.binary_search.ensures.position
