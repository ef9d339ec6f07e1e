use Rattle.std.proofs.Common.{false}
use Rattle.cil_specs.proofs.ShapeLemmas.{shapes_same}
use Rattle.cil_text.proofs.laws.statements_are_one.Goals as goal

pub returns : goal.returns
returns c trees one other = shapes_same one other false trees
