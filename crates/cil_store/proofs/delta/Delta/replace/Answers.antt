use Rattle.cil_store.proofs.Common.{sym, subst, IfOk, meaning_in, IsMeaningOf, Store, AreCountedBetween, AreCountedChanges}
use Rattle.cil_store.proofs.CountedPolicyLemmas.{means-after, told-after}
use Rattle.cil_store.proofs.delta.Delta.replace.Goals as goal

pub invariant_of-self-2 : goal.invariant_of-self-2
invariant_of-self-2 g c =
    let inside : Store = c.self.inside.store in
    let to : Store = c.args.prepared.store in
    let done = c.replace-changes.ensures in
    means-after inside c.replace-changes.new.store to c.in_ok-policy.policy c.replace-changes.new.self c.args.prepared.policy
    (subst (IsMeaningOf inside) (sym c.in_ok-policy.ensures.ok) c.self.invariant) c.requires
    c.replace-changes.result done.store done.policy done.err_store done.err_policy

pub returns-clause-changes : goal.returns-clause-changes
returns-clause-changes g c =
    let inside : Store = c.self.inside.store in
    let new : Store = c.replace-changes.new.store in
    let to : Store = c.args.prepared.store in
    let before = c.args.meter.now in
    let after = c.replace-changes.new.meter in
    subst (λ s. IfOk c.replace-changes.result (AreCountedBetween s new before after)) c.self.view_is
    (told-after inside new to (meaning_in c.in_ok-policy.policy) (meaning_in c.args.prepared.policy)
    (subst (IsMeaningOf inside) (sym c.in_ok-policy.ensures.ok) c.self.invariant) c.requires (λ m n changes. AreCountedChanges m n before after changes)
    c.replace-changes.result c.replace-changes.ensures.store c.replace-changes.ensures.changes)
