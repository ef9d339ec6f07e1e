use Rattle.cil_store_specs.proofs.OneScript.{one-script}
use Rattle.cil_session.proofs.laws.one_script.Goals as goal

pub returns : goal.returns
returns g = one-script
