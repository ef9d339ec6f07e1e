use Rattle.cil_resolve.proofs.Common.{◌≡◌, ◌∙◌, sym, ap, subst, none-some, same_Some, types, IsLead}
use Rattle.std.proofs.Common.{slice_get}
use Rattle.cil_resolve.proofs.ElementLemmas.{actual-here}
use Rattle.cil_resolve.proofs.elements.actual_of.Goals as goal

pub returns-in_err-first : goal.returns-in_err-first
returns-in_err-first g c policy s noted faultless at first some =
    let a = actual-here policy faultless c.args.checker.now.actuals c.args.alias s noted.has_actuals first at some in
    absurd (none-some a.n (sym c.in_err-first.was ∙ c.get.ensures ∙ a.noted))

pub returns : goal.returns
returns g c policy s noted faultless at first some =
    let a = actual-here policy faultless c.args.checker.now.actuals c.args.alias s noted.has_actuals first at some in
    let same : a.n ≡ c.in_ok-first.first = same_Some a.n c.in_ok-first.first (sym a.noted ∙ sym c.get.ensures ∙ c.in_ok-first.was) in
    subst (IsLead types policy c.lead_at.result) a.is (c.lead_at.ensures policy a.t types a.actual noted.is (ap (slice_get policy) (sym same) ∙ a.at) a.refers)
