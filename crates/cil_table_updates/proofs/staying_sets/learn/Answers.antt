use Rattle.cil_table_updates.proofs.Common.{◌≡◌, ◌∙◌, true, Some, ap, inl, inr, subst, sym, cases_eq}
use Rattle.cil_table_updates.specs.Staying.{answer_at, set_in, StaysSet}
use Rattle.cil_table_updates.proofs.StayingLemmas.{learned}
use Rattle.cil_table_updates.proofs.staying_sets.learn.Goals as goal

pub returns-in_ok-same-in-OfSet-clause-staying : goal.returns-in_ok-same-in-OfSet-clause-staying
returns-in_ok-same-in-OfSet-clause-staying g c n known =
    let old = c.args.old.now.policy.now in
    let new = c.args.new.now.policy.now in
    let set = c.in-OfSet.of.set in
    elim (cases_eq n set) [
      | inl here ↦
          subst (StaysSet old new) (sym here)
          (learned old new c.args.old.now.rule.now c.args.new.now.rule.now set c.requires.old_alike c.requires.new_alike c.requires.alike.here c.requires.alike.there (ap set_in c.in-OfSet.is) c.requires.alike.written
          (c.in_ok-same-in-OfSet.ensures (c.keep.ensures.here (subst (λ k. answer_at c.keep.new.answers k ≡ Some true) here known))))
      | inr other ↦ c.requires.staying n (sym (c.keep.ensures.others n other) ∙ known)
    ]
