use Rattle.cil_rule_shifts.proofs.Common.{◌∙◌, refl}
use Rattle.cil_rule_shifts.proofs.ReachLemmas.{present-none, type-many}
use Rattle.cil_rule_shifts.proofs.types.Types.none.Goals as goal

pub returns : goal.returns
returns g c t = type-many _ c.new.result refl t ∙ present-none c.new.result t (c.new.ensures t)
