use Rattle.cil_lines.proofs.StepLemmas.{single_is}
use Rattle.cil_lines.proofs.line.Line.single.Goals as goal

pub returns : goal.returns
returns g c b within =
    let above = rw c.deref.ensures.value at (c.present.ensures b) in
    rw (← c.self.view_is) (single_is _ _ c.args.word b c.bits.result c.present.result within c.present.type_inv c.bits.ensures above)
