use Rattle.cil_store.proofs.Common.{◌∙◌, [], ap, subst, Meaning, CountsSome, meaning_in, meaning_of, AreCountedChanges}
use Rattle.cil_resolve.specs.Sets.{sets_in}
use Rattle.cil_store.proofs.CountedPolicyLemmas.{none-listed}
use Rattle.cil_store.proofs.counted_policy.CountedPolicy.load_counted.Goals as goal

pub load_counted-requires-clause-sets : goal.load_counted-requires-clause-sets
load_counted-requires-clause-sets g c =
    let nothing = c.resolved-nothing.result.now in
    let none = ap meaning_in (c.resolved-nothing.ensures ∙ c.policy.view_is) ∙ c.in_ok-policy.ensures in
    none-listed (meaning_in nothing).sets (sets_in nothing) (ap (λ (m : Meaning). m.sets) none) c.resolved_sets_are_in_order.ensures.the_same

pub returns-clause-changes : goal.returns-clause-changes
returns-clause-changes g c =
    let nothing = c.resolved-nothing.result.now in
    let none = ap meaning_in (c.resolved-nothing.ensures ∙ c.policy.view_is) ∙ c.in_ok-policy.ensures in
    let before = c.args.meter.now in
    let after = c.load_counted.new.meter in
    let counts = c.in_ok-counts.counts in
    let done = c.in_ok-counts.ensures in
    let some = done.changes in
    subst (λ m. CountsSome (AreCountedChanges m (meaning_in c.args.next) before after) counts) none
    (subst (λ r. CountsSome (AreCountedChanges (meaning_in nothing) (meaning_in r) before after) counts) c.resolved.ensures (record {
      changes = some.changes;
      those = record { are_changes = some.those; evaluations = done.evaluations; adjustments = done.adjustments some.changes some.those };
      are_counts = some.are_counts;
    }))
