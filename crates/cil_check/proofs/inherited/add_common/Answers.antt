use Rattle.cil_check.proofs.Common.{subst, sym, commons, IsLead, common_lead}
use Rattle.cil_check.proofs.InheritedLemmas.{common-led, inherited-next, no-class-stay, no-common-stay}
use Rattle.cil_check.proofs.inherited.add_common.Goals as goal

pub returns-in_default-clause-noted : goal.returns-in_default-clause-noted
returns-in_default-clause-noted g c = λ policy s place seen at so_far.
    no-class-stay policy place s c.args.inherited.now at (c.in_default.ensures policy s seen) so_far

pub returns-in_default-lead-clause-noted : goal.returns-in_default-lead-clause-noted
returns-in_default-lead-clause-noted g c = λ policy s place seen at so_far.
    let led = subst (λ found. IsLead commons policy found (common_lead policy s)) (sym c.in_default-lead.ensures) (common-led c.args.seen.now policy s c.in-Some.class seen (c.in-Some.ensures policy s seen)) in
    no-common-stay policy place s c.args.inherited.now at led so_far

pub returns-clause-noted : goal.returns-clause-noted
returns-clause-noted g c = λ policy s place seen at so_far.
    let led = subst (λ found. IsLead commons policy found (common_lead policy s)) (sym c.in-Some-lead.ensures) (common-led c.args.seen.now policy s c.in-Some.class seen (c.in-Some.ensures policy s seen)) in
    inherited-next policy place s c.in-Some.class c.in-Some-lead.common c.args.inherited.now c.insert.new.self at (c.in-Some.ensures policy s seen) led c.in_ok-insert.ensures.listed so_far
