use Rattle.cil_resolve.proofs.Common.{◌∙◌, sym, subst, commons, IsLead, once-first, common_of}
use Rattle.cil_bind.proofs.LookupLemmas.{no-lead}
use Rattle.cil_resolve.proofs.CommonLemmas.{no-common, common-at}
use Rattle.cil_resolve.proofs.lowering.Lowering.common.Goals as goal

pub returns-in_err-first : goal.returns-in_err-first
returns-in_err-first g c policy s is at a_class =
    let first = once-first policy c.args.class s is.noted.is.bound.once at a_class in
    subst (λ o. IsLead commons policy o (common_of policy s)) (sym c.from_residual.ensures)
    (no-lead commons policy (common_of policy s) (no-common policy c.args.self.now.checker.now.commons c.args.class s is.noted.has_commons at first (sym c.get.ensures ∙ c.in_err-first.was)))

pub returns : goal.returns
returns g c policy s is at a_class =
    let first = once-first policy c.args.class s is.noted.is.bound.once at a_class in
    let there = common-at policy c.args.self.now.checker.now.commons c.args.class s is.noted.has_commons at first c.in_ok-first.first (sym c.get.ensures ∙ c.in_ok-first.was) in
    subst (IsLead commons policy c.lead_at.result) there.is (c.lead_at.ensures policy there.t commons there.the_common is.noted.is there.at there.refers)
