use Rattle.cil_resolve.proofs.EvaluateLemmas.{seen-below}
use Rattle.cil_resolve.proofs.resolved.Resolved.numbered_set.Goals as goal

pub returns-clause-within : goal.returns-clause-within
returns-clause-within g c = seen-below c.args.self.now c.args.i c.at.result c.at.ensures
