use Rattle.cil_rule_shifts.proofs.ReachLemmas.{type-one}
use Rattle.cil_rule_shifts.proofs.types.Types.only.Goals as goal

pub returns-in-One : goal.returns-in-One
returns-in-One g c t = type-one c.args.self.now c.in-One.one c.in-One.is t
