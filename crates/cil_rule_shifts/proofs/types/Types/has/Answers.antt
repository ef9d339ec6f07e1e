use Rattle.cil_rule_shifts.proofs.Common.{◌∙◌, sym}
use Rattle.cil_rule_shifts.proofs.ReachLemmas.{present-counted, type-many, type-one}
use Rattle.cil_rule_shifts.proofs.types.Types.has.Goals as goal

pub returns-in-One : goal.returns-in-One
returns-in-One g c = sym (type-one c.args.self.now c.in-One.one c.in-One.is c.args.ty)

pub returns-in-Many : goal.returns-in-Many
returns-in-Many g c = present-counted c.in-Many.line c.args.ty c.count.result c.count.ensures ∙ sym (type-many c.args.self.now c.in-Many.line c.in-Many.is c.args.ty)
