use Rattle.cil_projection.proofs.ComponentLemmas.{last_at_end}
use Rattle.cil_projection.proofs.component.last_component.Goals as goal

pub returns : goal.returns
returns c = last_at_end c.loop-rest.last.now c.loop-rest.rest.now c.args.name.now c.in_default.len_below c.loop-rest.invariant
