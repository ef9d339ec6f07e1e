use Rattle.cil_specs.proofs.Stuck.{no-fault}
use Rattle.cil_reader.proofs.laws.no_fault_beside_a_reading.Goals as goal

pub returns : goal.returns
returns c = no-fault
