use Rattle.cil_specs.proofs.Stuck.{one-fault}
use Rattle.cil_reader.proofs.laws.one_reading_fault.Goals as goal

pub returns : goal.returns
returns c = one-fault
