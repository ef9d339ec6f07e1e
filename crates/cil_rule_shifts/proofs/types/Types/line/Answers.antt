use Rattle.cil_rule_shifts.proofs.ReachLemmas.{type-many}
use Rattle.cil_rule_shifts.proofs.types.Types.line.Goals as goal

pub returns-in-Many : goal.returns-in-Many
returns-in-Many g c t = type-many c.args.self.now c.in-Many.line c.in-Many.is t
