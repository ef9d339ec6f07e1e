use Rattle.cil_bind.proofs.NestedLemmas.{nested-rows}
use Rattle.cil_bind.proofs.laws.rows_are_nested.Goals as goal

pub returns : goal.returns
returns c = nested-rows
