use Rattle.std.proofs.Common.{inr, refl, codes}
use Rattle.cil_text.proofs.form.without_unordered.Goals as goal

pub returns-in_default : goal.returns-in_default
returns-in_default c = inr (refl, λ at rest h. c.in_default.ensures (record { at = at; text = codes "unordered" }) rest h)
