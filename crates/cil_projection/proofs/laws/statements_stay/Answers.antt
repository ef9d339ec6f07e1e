use Rattle.std.proofs.Common.{true}
use Rattle.cil_projection.proofs.CopyLemmas.{statement_copied}
use Rattle.cil_projection.proofs.laws.statements_stay.Goals as goal

pub returns : goal.returns
returns c settings trees from to high = statement_copied settings true trees 0 high from to
