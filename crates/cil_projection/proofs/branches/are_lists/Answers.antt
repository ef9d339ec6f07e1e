use Rattle.std.proofs.Common.{◌∙◌}
use Rattle.cil_reader.specs.Common.{trees_of}
use Rattle.cil_projection.proofs.BranchLemmas.{no_lists}
use Rattle.cil_projection.proofs.branches.are_lists.Goals as goal

pub returns : goal.returns
returns c = c.is_empty.ensures ∙ no_lists (trees_of c.loop-items.rest) c.in_default.ensures ∙ c.loop-items.invariant
