use Rattle.cil_resolve.proofs.Common.{anonymous, modules_of}
use Rattle.cil_resolve.proofs.FormLemmas.{rule-names}
use Rattle.cil_resolve.proofs.RuleLemmas.{class-rule-made}
use Rattle.cil_resolve.proofs.lowering.Lowering.plain_rule.Goals as goal

pub rule_start-start-requires : goal.rule_start-start-requires
rule_start-start-requires g c =
    let (policy, s, is, at, (kind, source, target, the_class, permissions, form)) = c.requires.is in
    (policy, s, is, at, (kind, source, target, anonymous the_class permissions, form))

pub plain_permissions-requires : goal.plain_permissions-requires
plain_permissions-requires g c =
    let (policy, s, is, at, (kind, source, target, the_class, permissions, form)) = c.requires.is in
    let start = c.rule_start-start.ensures policy s kind source target (anonymous the_class permissions) is at form in
    record {
      is = (policy, s, the_class, permissions, is, at, rule-names s.form c.rule_start-start.result.reference kind source target the_class permissions form start.refers);
      plain = c.requires.plain;
    }

pub returns-clause-rule : goal.returns-clause-rule
returns-clause-rule g c policy s is at (kind, source, target, the_class, permissions, form) knows =
    let modules = modules_of c.args.self.now.checker.now.bound.joined.now in
    let names = c.args.self.now.numbering.now.names.items in
    let r = c.rule_start-start.result in
    let p = c.in_ok-permissions.permissions in
    let start = c.rule_start-start.ensures policy s kind source target (anonymous the_class permissions) is at form in
    let are = c.in_ok-permissions.ensures.permissions policy s the_class permissions is at knows (rule-names s.form r.reference kind source target the_class permissions form start.refers) in
    class-rule-made modules names policy s r p c.with.result kind source target the_class permissions form start are c.with.ensures

pub returns-clause-known : goal.returns-clause-known
returns-clause-known g c = c.in_ok-permissions.ensures.known
