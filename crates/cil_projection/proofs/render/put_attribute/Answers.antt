use Rattle.std.proofs.Common.{◌≤◌, length, subst, sym}
use Rattle.cil_projection.proofs.ComponentLemmas.{last_within}
use Rattle.cil_projection.proofs.render.put_attribute.Goals as goal

pub overflow_sub-front : goal.overflow_sub-front
overflow_sub-front g c = subst (λ last. length last ≤ length c.args.name.now) (sym c.last_component-last.ensures) (last_within c.args.name.now)
