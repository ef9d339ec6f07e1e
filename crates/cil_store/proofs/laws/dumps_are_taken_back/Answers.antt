use Rattle.cil_store_specs.proofs.DumpAtOnce.{dump-step}
use Rattle.cil_store_specs.proofs.DumpSession.{dump-taken-back}
use Rattle.cil_store.proofs.laws.dumps_are_taken_back.Goals as goal

pub returns : goal.returns
returns g = record { step = dump-step; session = dump-taken-back }
