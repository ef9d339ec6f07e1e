use Rattle.std.proofs.Common.{◌∙◌, option_map, ap, sym}
use Rattle.cil_resolve.proofs.EvaluateLemmas.{attribute-low}
use Rattle.cil_resolve.proofs.resolved.Resolved.set_attribute.Goals as goal

pub returns-clause-below : goal.returns-clause-below
returns-clause-below g c = attribute-low c.args.self.now c.args.i c.in_ok-set.set.now (sym c.at.ensures ∙ ap (option_map (λ y. y.now)) c.in_ok-set.was)
