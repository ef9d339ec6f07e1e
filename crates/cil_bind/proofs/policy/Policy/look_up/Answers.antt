use Rattle.cil_bind.proofs.Common.{sym, subst, AreWorded}
use Rattle.cil_bind.proofs.policy.Policy.look_up.Goals as goal

pub leads-requires-clause-worded : goal.leads-requires-clause-worded
leads-requires-clause-worded g c =
    let worded = c.requires.worded in
    (worded.0, subst (λ w. AreWorded worded.0 w c.args.joined.now.modules.items) (sym c.as_slice.ensures.value) worded.1)

pub returns-clause-led : goal.returns-clause-led
returns-clause-led g c = λ names policy knows worded.
    c.in_ok-leads.ensures.led names policy knows (subst (λ w. AreWorded names w c.args.joined.now.modules.items) (sym c.as_slice.ensures.value) worded)
