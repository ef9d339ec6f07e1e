use Rattle.std.proofs.Common.{length, sym, ap, ◌∙◌}
use Rattle.cil_check.proofs.witnesses.listers.Goals as goal

pub loop-listed-init : goal.loop-listed-init
loop-listed-init g c = ap (λ v. length v.0) c.new-listers.ensures ∙ sym (ap (λ v. length v.1) c.new-listers.ensures)
