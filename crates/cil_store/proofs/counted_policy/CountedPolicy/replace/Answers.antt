use Rattle.cil_store.proofs.Common.{◌∙◌, subst, IsNow, WasBefore, meaning_in, AreCountedChanges}
use Rattle.std.specs.Rc.{rc_value}
use Rattle.cil_store.proofs.CountedPolicyLemmas.{taken-back}
use Rattle.cil_store.proofs.counted_policy.CountedPolicy.replace.Goals as goal

pub invariant_of-self : goal.invariant_of-self
invariant_of-self g c =
    taken-back c.self.inside.policy c.update-updated.new.self c.undo.new.self (subst (λ r. WasBefore r c.update-updated.new.self) c.shared-old.ensures c.in_default.ensures.before) c.undo.ensures

pub settle-requires : goal.settle-requires
settle-requires g c = subst (λ r. IsNow r c.update-updated.new.self) c.shared-new.ensures c.in-Ok.ensures.now

pub returns-clause-changes : goal.returns-clause-changes
returns-clause-changes g c =
    let before = c.args.meter.now in
    let after = c.update-updated.new.meter in
    let done = c.in-Ok.ensures in
    subst (λ r. AreCountedChanges (meaning_in r) (meaning_in c.args.prepared.policy) before after c.in-Ok.changes) (c.shared-old.ensures ∙ c.self.view_is)
    (subst (λ r. AreCountedChanges (meaning_in (rc_value c.shared-old.result.now)) (meaning_in r) before after c.in-Ok.changes) c.shared-new.ensures
    (record { are_changes = done.changes; evaluations = done.evaluations; adjustments = done.adjustments }))
