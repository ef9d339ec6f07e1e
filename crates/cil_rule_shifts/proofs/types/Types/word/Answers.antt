use Rattle.cil_rule_shifts.proofs.Common.{◌+◌, ◌*◌, ◌∙◌, ap, sym, one_if}
use Rattle.cil_rule_shifts.proofs.ReachLemmas.{present-one, type-many, type-one}
use Rattle.cil_rule_shifts.proofs.types.Types.word.Goals as goal

pub returns-in-One : goal.returns-in-One
returns-in-One g c b within =
    c.bit_of.ensures b within ∙ sym (ap one_if (type-one c.args.self.now c.in-One.ty c.in-One.is (64 * c.args.word + b)))

pub returns-in-Many : goal.returns-in-Many
returns-in-Many g c b within =
    c.present.ensures b within ∙ present-one c.in-Many.line (64 * c.args.word + b)
    ∙ sym (ap one_if (type-many c.args.self.now c.in-Many.line c.in-Many.is (64 * c.args.word + b)))
