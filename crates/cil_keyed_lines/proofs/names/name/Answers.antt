use Rattle.std.proofs.Common.{arith}
use Rattle.cil_keyed_lines.proofs.NameLemmas.{uses_most}
use Rattle.cil_keyed_lines.proofs.names.name.Goals as goal

pub join-requires-clause-fits : goal.join-requires-clause-fits
join-requires-clause-fits g c some =
    omega (arith, c.leave.ensures.users c.args.line some, c.requires.counted c.args.line some, uses_most c.args.named.now.items c.args.line, c.args.named.now.small, c.args.named.now.ok)
