use Rattle.cil_resolve.proofs.Common.{◌<◌, arith, slice_get_within, sym, subst, leads, IsLead, seen-lead}
use Rattle.cil_resolve.proofs.elements.lead_at.Goals as goal

pub returns-then-place-len : goal.returns-then-place-len
returns-then-place-len g c = λ policy s table word is at refers.
    let within = slice_get_within policy c.args.place s at in
    let long = c.len.ensures policy is in
    let past = c.if-place-len.true in
    absurd (omega (arith, within, long, past))

pub seen-requires : goal.seen-requires
seen-requires g c =
    let (policy, is) = c.requires in
    record { is = (policy, is, subst (λ n. c.args.place < n) (c.len.ensures policy is) c.if-place-len.false) }

pub returns : goal.returns
returns g c policy s table word is at refers =
    subst (λ o. IsLead table policy o (leads policy table s.namespace word.text)) (sym c.lead.ensures)
    (seen-lead c.seen.result policy s c.args.k table word (c.seen.ensures.seen policy s is at) refers)
