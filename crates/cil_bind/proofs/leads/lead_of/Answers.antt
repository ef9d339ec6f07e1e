use Rattle.cil_bind.proofs.Common.{sym, subst, texts_of, LeadsTo}
use Rattle.std.proofs.lemmas.Result.{IfOk-weaker}
use Rattle.cil_bind.proofs.leads.lead_of.Goals as goal

pub returns : goal.returns
returns g c =
    IfOk-weaker c.of.result _ _ (λ found same names policy knows nums text within.
    let spaces = c.args.lookup.now.namespaces in
    let texts = texts_of c.args.«module».now in
    let it = c.args.citation in
    subst (λ f. LeadsTo names spaces texts policy it.table c.args.namespace it.text f) (sym same)
    (subst (λ n. LeadsTo names spaces texts policy it.table n it.text c.lead.result) (c.known-from.ensures.known within) (c.lead.ensures names policy knows nums)))
    c.of.ensures
