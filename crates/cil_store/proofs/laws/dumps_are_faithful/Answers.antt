use Rattle.cil_store_specs.proofs.DumpLemmas.{run-of-dump}
use Rattle.cil_store_specs.proofs.DumpScript.{session-of-dump}
use Rattle.cil_store_specs.proofs.DumpAtOnce.{dump-accepted}
use Rattle.cil_store.proofs.laws.dumps_are_faithful.Goals as goal

pub returns : goal.returns
returns g = record { run = run-of-dump; session = session-of-dump; at_once = dump-accepted }
