use Rattle.cil_store.proofs.Common.{◌∙◌, subst, CountsSome, IsNow, WasBefore, meaning_in, AreCountedChanges}
use Rattle.cil_store.proofs.CountedPolicyLemmas.{taken-back}
use Rattle.cil_store.proofs.counted_policy.CountedPolicy.replace_counted.Goals as goal

pub invariant_of-self : goal.invariant_of-self
invariant_of-self g c =
    taken-back c.self.inside.policy c.update_counted-updated.new.self c.undo.new.self (subst (λ r. WasBefore r c.update_counted-updated.new.self) c.resolved-old.ensures c.in_default.ensures.before) c.undo.ensures

pub settle-requires : goal.settle-requires
settle-requires g c = subst (λ r. IsNow r c.update_counted-updated.new.self) c.resolved-new.ensures c.in-Ok.ensures.now

pub returns-clause-changes : goal.returns-clause-changes
returns-clause-changes g c =
    let before = c.args.meter.now in
    let after = c.update_counted-updated.new.meter in
    let done = c.in-Ok.ensures in
    let some = done.changes in
    subst (λ r. CountsSome (AreCountedChanges (meaning_in r) (meaning_in c.args.prepared.policy) before after) c.in-Ok.counts) (c.resolved-old.ensures ∙ c.self.view_is)
    (subst (λ r. CountsSome (AreCountedChanges (meaning_in c.resolved-old.result.now) (meaning_in r) before after) c.in-Ok.counts) c.resolved-new.ensures (record {
      changes = some.changes;
      those = record { are_changes = some.those; evaluations = done.evaluations; adjustments = done.adjustments some.changes some.those };
      are_counts = some.are_counts;
    }))
