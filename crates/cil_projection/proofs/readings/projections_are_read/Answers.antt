use Rattle.cil_projection.proofs.Reading.{projection_read, projection_same, shallow_read}
use Rattle.cil_projection.proofs.readings.projections_are_read.Goals as goal

pub returns-clause-read : goal.returns-clause-read
returns-clause-read c = projection_read

pub returns-clause-shallow : goal.returns-clause-shallow
returns-clause-shallow c = shallow_read

pub returns-clause-same : goal.returns-clause-same
returns-clause-same c settings text trees found reads = projection_same settings text trees reads found
