use Rattle.cil_specs.proofs.OneReading.{one-reading}
use Rattle.cil_reader.proofs.laws.one_reading.Goals as goal

pub returns : goal.returns
returns c = one-reading
