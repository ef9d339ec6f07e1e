use Rattle.std.proofs.Common.{sym, subst, nat_eq}
use Rattle.cil_rule_shifts.specs.Reach.{IsFirstWord}
use Rattle.cil_rule_shifts.proofs.ReachLemmas.{one-word, takes-itself, takes-nothing, takes-these}
use Rattle.cil_rule_shifts.proofs.targets.Targets.next_word.Goals as goal

pub returns-in-Nothing : goal.returns-in-Nothing
returns-in-Nothing g c t behind = takes-nothing c.args.self.now c.args.source c.in-Nothing.is t

pub returns-in-Itself : goal.returns-in-Itself
returns-in-Itself g c =
    subst (λ f. IsFirstWord f c.args.from c.then_some.result) (λ i t. sym (takes-itself c.args.self.now c.args.source c.in-Itself.is t) i)
    (subst (IsFirstWord (nat_eq c.args.source) c.args.from) (sym c.then_some.ensures) (one-word c.args.source c.args.from))

pub returns-in-These : goal.returns-in-These
returns-in-These g c =
    subst (λ f. IsFirstWord f c.args.from c.next_word.result) (λ i t. sym (takes-these c.args.self.now c.args.source c.in-These.types c.in-These.is t) i) c.next_word.ensures
