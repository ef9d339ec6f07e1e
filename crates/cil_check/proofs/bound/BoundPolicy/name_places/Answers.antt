use Rattle.cil_check.proofs.Common.{ap, ◌∙◌}
use Rattle.cil_bind.specs.AboutNames.{name_places}
use Rattle.cil_check.proofs.bound.BoundPolicy.name_places.Goals as goal

pub returns : goal.returns
returns g c policy is = c.as_slice.ensures.value ∙ is.bound.name_places ∙ ap (name_places 0) is.bound.kinds
