use Rattle.cil_projection.proofs.CoverLemmas.{lines}
use Rattle.cil_projection.proofs.laws.lines_stay.Goals as goal

pub returns : goal.returns
returns c = lines
