use Rattle.cil_rule_shifts.proofs.Common.{◌∙◌, is_among, refl, sym}
use Rattle.cil_rule_shifts.proofs.KeyLemmas.{same-shifted}
use Rattle.cil_rule_shifts.proofs.group.Group.shift_some.Goals as goal

pub returns-in-true-true : goal.returns-in-true-true
returns-in-true-true g c =
    same-shifted (is_among c.args.self.sources) c.args.self c.args.lines.now c.requires.settled (λ s t. c.in-true-true.ensures.itself refl s t ∙ sym (c.in-true-true.ensures'.itself refl s t))
