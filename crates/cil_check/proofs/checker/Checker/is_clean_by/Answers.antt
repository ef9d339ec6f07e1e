use Rattle.cil_check.proofs.Common.{◌<◌, ap, arith, is_plain, length, names_permissions, sym, ◌∙◌}
use Rattle.cil_check.proofs.KnownLemmas.{plain-clean}
use Rattle.cil_check.proofs.SeenLemmas.{is-long, there-at}
use Rattle.cil_check.proofs.checker.Checker.is_clean_by.Goals as goal

pub returns-then-is_plain-clause-clean : goal.returns-then-is_plain-clause-clean
returns-then-is_plain-clause-clean g c = λ is policy s noted at have known.
    plain-clean policy c.args.place s (sym (c.is_plain.ensures ∙ ap is_plain (c.kind-kind.ensures policy s noted.is at)) ∙ c.if-is_plain.true) noted.is.inside at

pub is_clean_naming-requires : goal.is_clean_naming-requires
is_clean_naming-requires g c =
    let (policy, noted, less) = c.requires in
    let (s, at) = there-at policy c.args.place less in
    (policy, s, noted, at, sym (c.names_permissions.ensures ∙ ap names_permissions (c.kind-kind.ensures policy s noted.is at)) ∙ c.if-names_permissions.true)

pub returns-then-names_permissions-clause-known : goal.returns-then-names_permissions-clause-known
returns-then-names_permissions-clause-known g c = λ policy noted known.
    let long = is-long c.args.self.now.bound policy noted.is in
    let other = is-long c.args.self.now.bound c.requires.0 c.requires.1.is in
    let within = c.requires.2 in
    let less : c.args.place < length policy = omega (arith, long, other, within) in
    let (s, at) = there-at policy c.args.place less in
    c.is_clean_naming.ensures.known policy s noted at (sym (c.names_permissions.ensures ∙ ap names_permissions (c.kind-kind.ensures policy s noted.is at)) ∙ c.if-names_permissions.true) known
