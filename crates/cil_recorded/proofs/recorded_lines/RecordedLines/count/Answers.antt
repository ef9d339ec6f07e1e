use Rattle.std.proofs.Common.{◌≤◌, length, arith}
use Rattle.cil_recorded.proofs.LogLemmas.{count_past}
use Rattle.cil_recorded.proofs.recorded_lines.RecordedLines.count.Goals as goal

pub returns-else-line-len : goal.returns-else-line-len
returns-else-line-len g c =
    let past : length c.self.inside.lines.items ≤ c.args.line = omega arith in
    rw (← c.self.view_is) (omega (arith, count_past c.self.inside.lines.items c.args.line c.args.target past))
