use Rattle.cil_lines.proofs.LineLemmas.{nothing}
use Rattle.cil_lines.proofs.StepLemmas.{nothing_below}
use Rattle.cil_lines.proofs.line.Line.new.Goals as goal

pub returns : goal.returns
returns g c t = rw c.new-2.ensures.items (nothing c.new.result c.new.ensures t)

pub invariant_of-result : goal.invariant_of-result
invariant_of-result g c = nothing_below c.new.result c.new-2.result.items c.new.ensures c.new-2.ensures.items
