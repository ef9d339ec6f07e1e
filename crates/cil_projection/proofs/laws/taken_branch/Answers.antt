use Rattle.cil_projection.proofs.CopiedBranches.{both_copied, chosen_copied, tunable_is}
use Rattle.cil_projection.proofs.laws.taken_branch.Goals as goal

pub returns : goal.returns
returns c = record { chosen = chosen_copied; both = both_copied; tunables = tunable_is }
