use Rattle.std.proofs.Common.{◌/◌, ◌==◌, ◌&&◌, ◌∙◌, ap, sym, nat_eq}
use Rattle.cil_rule_shifts.specs.Reach.{has_type, one_if}
use Rattle.cil_rule_shifts.proofs.ReachLemmas.{takes-itself, takes-these, word-bits, word-none}
use Rattle.cil_rule_shifts.proofs.targets.Targets.word.Goals as goal

pub returns-in-Nothing : goal.returns-in-Nothing
returns-in-Nothing g c t = word-none c.args.self.now c.args.source c.in-Nothing.is c.args.word t

pub returns-in-Itself : goal.returns-in-Itself
returns-in-Itself g c t =
    word-bits (nat_eq c.args.source) c.args.word c.bit_of.result t c.bit_of.ensures
    ∙ sym (ap (λ b. one_if ((t / 64 == c.args.word) && b)) (takes-itself c.args.self.now c.args.source c.in-Itself.is t))

pub returns-in-These : goal.returns-in-These
returns-in-These g c t =
    word-bits (has_type c.in-These.types) c.args.word c.word.result t c.word.ensures
    ∙ sym (ap (λ b. one_if ((t / 64 == c.args.word) && b)) (takes-these c.args.self.now c.args.source c.in-These.types c.in-These.is t))
