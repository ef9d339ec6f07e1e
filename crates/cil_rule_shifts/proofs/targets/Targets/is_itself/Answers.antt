use Rattle.std.proofs.Common.{◌∙◌, sym}
use Rattle.cil_rule_shifts.proofs.ReachLemmas.{takes-itself, takes-nothing, takes-these}
use Rattle.cil_rule_shifts.proofs.targets.Targets.is_itself.Goals as goal

pub returns-in-Nothing-clause-same : goal.returns-in-Nothing-clause-same
returns-in-Nothing-clause-same g c other s t = takes-nothing c.args.self.now s c.in-Nothing.is t ∙ sym (takes-nothing c.args.self.now 0 c.in-Nothing.is t)

pub returns-in-Itself-clause-itself : goal.returns-in-Itself-clause-itself
returns-in-Itself-clause-itself g c is s t = takes-itself c.args.self.now s c.in-Itself.is t

pub returns-in-These-clause-same : goal.returns-in-These-clause-same
returns-in-These-clause-same g c other s t = takes-these c.args.self.now s c.in-These.field-0 c.in-These.is t ∙ sym (takes-these c.args.self.now 0 c.in-These.field-0 c.in-These.is t)
