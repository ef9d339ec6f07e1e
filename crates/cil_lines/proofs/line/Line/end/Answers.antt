use Rattle.std.proofs.Common.{◌/◌, arith}
use Rattle.cil_lines.proofs.LineLemmas.{none_counted}
use Rattle.cil_lines.proofs.line.Line.end.Goals as goal

pub returns : goal.returns
returns g c t past =
    let end = c.max.ensures in
    let lowest = c.end.ensures (t / 64) (omega (arith, end, past)) in
    let higher = (rw c.deref.ensures.value at c.end-2.ensures) (t / 64) (omega (arith, end, past)) in
    rw (← c.self.view_is) (none_counted (record { lowest = c.self.inside.lowest; higher = c.self.inside.higher.items }) t (omega (arith, lowest, higher)))
