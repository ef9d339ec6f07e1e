use Rattle.cil_bind.proofs.Common.{inl, inr, subst, texts_of, IsLed}
use Rattle.std.proofs.lemmas.Result.{IfOk-weaker}
use Rattle.cil_bind.proofs.leads.found_of.Goals as goal

pub returns-in-Some : goal.returns-in-Some
returns-in-Some g c = λ names policy knows nums. inr c.in-Some.ensures

pub returns : goal.returns
returns g c =
    IfOk-weaker c.lead_of.result _ _ (λ found is names policy knows nums.
    inl (subst (λ i. IsLed names c.args.lookup.now.namespaces (texts_of c.args.«module».now) policy c.args.citation i found) c.space_at.ensures (is names policy knows nums)))
    c.lead_of.ensures
