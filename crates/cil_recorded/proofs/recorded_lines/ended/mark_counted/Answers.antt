use Rattle.cil_recorded.proofs.EndLemmas.{line_set}
use Rattle.cil_recorded.proofs.recorded_lines.ended.mark_counted.Goals as goal

pub returns-clause-others : goal.returns-clause-others
returns-clause-others g c l d apart none = line_set c.args.steps.now.items c.args.i _ d l apart none
