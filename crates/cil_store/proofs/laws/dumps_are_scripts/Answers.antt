use Rattle.cil_store_specs.proofs.DumpScript.{commands-of-dump, dump-alone}
use Rattle.cil_store.proofs.laws.dumps_are_scripts.Goals as goal

pub returns : goal.returns
returns g = record { commands = commands-of-dump; alone = dump-alone }
