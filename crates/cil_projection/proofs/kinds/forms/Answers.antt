use Rattle.std.proofs.Common.{refl}
use Rattle.cil_projection.specs.Forms.{forms}
use Rattle.cil_projection.proofs.kinds.forms.Goals as goal

pub returns : goal.returns
unfolding forms
returns c = refl
