use Rattle.std.proofs.Common.{◌+◌, ◌*◌, ◌≤◌, length, arith}
use Rattle.std.proofs.lemmas.Nat.Bits.{bit_at-zero}
use Rattle.cil_recorded.proofs.LogLemmas.{count_past}
use Rattle.cil_recorded.proofs.recorded_lines.RecordedLines.single.Goals as goal

pub returns-else-line-len : goal.returns-else-line-len
returns-else-line-len g c b within =
    let past : length c.self.inside.lines.items ≤ c.args.line = omega arith in
    rw (← c.self.view_is) (omega (arith, bit_at-zero b, count_past c.self.inside.lines.items c.args.line (64 * c.args.word + b) past))
