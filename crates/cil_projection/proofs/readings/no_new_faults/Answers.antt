use Rattle.cil_projection.proofs.Reading.{fault_unprojected, statement_unprojected}
use Rattle.cil_projection.proofs.readings.no_new_faults.Goals as goal

pub returns-clause-statements : goal.returns-clause-statements
returns-clause-statements c settings text trees found reads = statement_unprojected settings text trees reads found

pub returns-clause-faults : goal.returns-clause-faults
returns-clause-faults c settings text trees found reads = fault_unprojected settings text trees reads found
