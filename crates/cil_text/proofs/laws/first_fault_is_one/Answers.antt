use Rattle.cil_specs.proofs.FaultSame.{first_fault_same}
use Rattle.cil_text.proofs.laws.first_fault_is_one.Goals as goal

pub returns : goal.returns
returns c trees high one other = first_fault_same trees 0 high one other
