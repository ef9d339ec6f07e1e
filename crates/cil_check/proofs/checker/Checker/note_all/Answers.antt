use Rattle.cil_check.proofs.Common.{sym, subst, ◌∙◌, HasFirsts, HasInherited, IsOf}
use Rattle.cil_check.specs.declared.firsts.Association.TheVariants.{Actual, Common}
use Rattle.cil_check.proofs.checker.Checker.note_all.Goals as goal

pub note_witnesses-requires : goal.note_witnesses-requires
note_witnesses-requires g c =
    let (policy, is) = c.requires.is in
    (policy, subst (λ b. IsOf b policy) (sym c.in_ok-note_given.ensures.bound) is)

pub returns-clause-bound : goal.returns-clause-bound
returns-clause-bound g c = c.note_witnesses.ensures.bound ∙ c.in_ok-note_given.ensures.bound

pub returns-clause-permissions : goal.returns-clause-permissions
returns-clause-permissions g c = c.note_witnesses.ensures.permissions ∙ c.in_ok-note_given.ensures.permissions

pub returns-clause-actuals : goal.returns-clause-actuals
returns-clause-actuals g c = λ policy is.
    subst (HasFirsts Actual policy) (sym c.note_witnesses.ensures.actuals) (c.in_ok-note_given.ensures.actuals policy is)

pub returns-clause-commons : goal.returns-clause-commons
returns-clause-commons g c = λ policy is.
    subst (HasFirsts Common policy) (sym c.note_witnesses.ensures.commons) (c.in_ok-note_given.ensures.commons policy is)

pub returns-clause-inherited : goal.returns-clause-inherited
returns-clause-inherited g c = λ policy is.
    subst (HasInherited policy) (sym c.note_witnesses.ensures.inherited) (c.in_ok-note_given.ensures.inherited policy is)
