use Rattle.cil_rule_shifts.proofs.Common.{sym, subst, nat_eq}
use Rattle.cil_rule_shifts.specs.Reach.{IsFirstWord}
use Rattle.cil_rule_shifts.proofs.ReachLemmas.{one-word, present-word, type-many, type-one}
use Rattle.cil_rule_shifts.proofs.types.Types.next_word.Goals as goal

pub returns-in-One : goal.returns-in-One
returns-in-One g c =
    subst (λ f. IsFirstWord f c.args.from c.then_some.result) (λ i t. sym (type-one c.args.self.now c.in-One.ty c.in-One.is t) i)
    (subst (IsFirstWord (nat_eq c.in-One.ty) c.args.from) (sym c.then_some.ensures) (one-word c.in-One.ty c.args.from))

pub returns-in-Many : goal.returns-in-Many
returns-in-Many g c =
    subst (λ f. IsFirstWord f c.args.from c.next_present_word.result) (λ i t. sym (type-many c.args.self.now c.in-Many.line c.in-Many.is t) i)
    (present-word c.in-Many.line c.args.from c.next_present_word.result c.next_present_word.ensures)
