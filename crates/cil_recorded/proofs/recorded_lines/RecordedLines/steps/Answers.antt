use Rattle.cil_recorded.proofs.PlaceLemmas.{untouched}
use Rattle.cil_recorded.specs.Recorded.{count_in}
use Rattle.cil_recorded.proofs.recorded_lines.RecordedLines.steps.Goals as goal

pub returns-clause-others : goal.returns-clause-others
returns-clause-others g c l t none =
    untouched c.args.self.now.log (count_in c.args.self.now.lines) l t none
