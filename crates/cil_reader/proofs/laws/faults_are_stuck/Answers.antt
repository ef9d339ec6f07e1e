use Rattle.cil_specs.proofs.Stuck.{stuck}
use Rattle.cil_reader.proofs.laws.faults_are_stuck.Goals as goal

pub returns : goal.returns
returns c = stuck
