use Rattle.cil_lines.proofs.LineLemmas.{present_is}
use Rattle.cil_lines.proofs.line.Line.present.Goals as goal

pub returns : goal.returns
returns g c b within =
    let above = rw c.deref.ensures.value at (c.present.ensures b) in
    rw (← c.self.view_is) (present_is _ c.args.word b c.bits.result c.present.result within c.bits.ensures above)
