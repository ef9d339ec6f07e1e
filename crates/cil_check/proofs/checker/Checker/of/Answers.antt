use Rattle.cil_check.proofs.Common.{sym, subst, ◌∙◌, IsOf, HaveListed, HaveWords}
use Rattle.cil_check.proofs.checker.Checker.of.Goals as goal

pub note_all-requires : goal.note_all-requires
note_all-requires g c = let (policy, is) = c.requires in record {
  is = (policy, subst (λ b. IsOf b policy) (sym c.listed-checker.ensures.bound) is);
  actuals = c.listed-checker.ensures.actuals;
  commons = c.listed-checker.ensures.commons;
  inherited = c.listed-checker.ensures.inherited;
}

pub returns-clause-noted : goal.returns-clause-noted
returns-clause-noted g c = λ policy is.
    let noted = c.in_ok-note_all.ensures in
    let begun = subst (λ b. IsOf b policy) (sym c.listed-checker.ensures.bound) is in
    let same = sym (noted.bound ∙ c.listed-checker.ensures.bound) in
    let permissions = sym (noted.permissions ∙ c.listed-checker.ensures.permissions) in record {
      is = subst (λ b. IsOf b policy) same is;
      has_actuals = noted.actuals policy begun;
      has_commons = noted.commons policy begun;
      few = noted.few policy begun;
      listed = subst (λ b. HaveListed b.policy.now.names policy c.note_all.new.self.permissions.listed.keys) same
          (subst (λ p. HaveListed c.args.bound.policy.now.names policy p.listed.keys) permissions (c.in_ok-permissions.ensures.listed policy is));
      words = subst (λ b. HaveWords b.policy.now.names policy c.note_all.new.self.permissions.words.0) same
          (subst (λ p. HaveWords c.args.bound.policy.now.names policy p.words.0) permissions (c.in_ok-permissions.ensures.words policy is));
      inherited = noted.inherited policy begun;
    }

pub returns-clause-bound : goal.returns-clause-bound
returns-clause-bound g c = c.in_ok-note_all.ensures.bound ∙ c.listed-checker.ensures.bound
