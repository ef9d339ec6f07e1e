use Rattle.cil_lines.proofs.LineLemmas.{count_is}
use Rattle.cil_lines.proofs.line.Line.count.Goals as goal

pub returns : goal.returns
returns g c =
    let high = rw c.deref.ensures.value at c.count.ensures in
    rw (← c.self.view_is) (count_is _ c.args.target _ _ _ _ c.bits.ensures high c.saturating_mul.ensures c.saturating_add.ensures)
