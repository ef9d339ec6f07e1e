use Rattle.std.proofs.Common.{false}
use Rattle.cil_specs.proofs.ShapeLemmas.{shapes_no_fault}
use Rattle.cil_text.proofs.laws.statements_have_no_fault.Goals as goal

pub returns : goal.returns
returns c trees statements fault shapes bad = shapes_no_fault statements false trees shapes fault bad
