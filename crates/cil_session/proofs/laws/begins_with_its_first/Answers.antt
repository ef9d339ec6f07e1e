use Rattle.cil_store_specs.proofs.OneScript.{begins-with-first}
use Rattle.cil_session.proofs.laws.begins_with_its_first.Goals as goal

pub returns : goal.returns
returns g = begins-with-first
