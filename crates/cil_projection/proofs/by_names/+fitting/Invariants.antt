use Rattle.std.proofs.Common.{length}
use Rattle.cil_projection.proofs.by_names.+fitting.Given as goal

abbrev pub decreases-fitting : goal.decreases-fitting
decreases-fitting g l = length l.forms.now
