use Rattle.std.proofs.Common.{◌≡◌, length, rules}
use Rattle.cil_recorded.proofs.LogLemmas.{before_none}
use Rattle.cil_recorded.proofs.recorded_lines.RecordedLines.is_pending.Goals as goal

pub returns-clause-none : goal.returns-clause-none
returns-clause-none g c settled =
    let none : length c.self.inside.log.items ≡ 0 = search rules in
    rw (← c.self.view_is) (before_none c.self.inside.lines.items c.self.inside.log.items none)
