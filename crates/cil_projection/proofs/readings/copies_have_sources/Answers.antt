use Rattle.cil_projection.proofs.ReadingSources.{all_sourced}
use Rattle.cil_projection.proofs.readings.copies_have_sources.Goals as goal

pub returns : goal.returns
returns c = all_sourced
