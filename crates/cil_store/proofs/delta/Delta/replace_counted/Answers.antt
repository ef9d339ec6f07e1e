use Rattle.cil_store.proofs.Common.{◌≡◌, ◌∙◌, [], refl, sym, subst, IfOk, None, Ok, Some, CountsSome, meaning_in, meaning_of, IsMeaningOf, Store, meaning_kept, AreCountedBetween, AreCountedChanges}
use Rattle.cil_store.proofs.CountedPolicyLemmas.{means-after, told-counted}
use Rattle.cil_store.proofs.delta.Delta.replace_counted.Goals as goal

pub invariant_of-self : goal.invariant_of-self
invariant_of-self g c =
    let inside : Store = c.self.inside.store in
    let to : Store = c.args.prepared.store in
    let kept : c.self.inside.policy ≡ Some c.in-Some.policy = sym c.take.ensures.value ∙ c.in-Some.is in
    let done = c.replace_counted-counts.ensures in
    means-after inside c.replace_counted-counts.new.store to c.in-Some.policy c.replace_counted-counts.new.self c.args.prepared.policy
    (subst (λ p. IsMeaningOf inside (meaning_kept p)) kept c.self.invariant) c.requires
    c.replace_counted-counts.result done.store done.policy done.err_store done.err_policy

pub returns-in-Some-clause-changes : goal.returns-in-Some-clause-changes
returns-in-Some-clause-changes g c =
    let inside : Store = c.self.inside.store in
    let new : Store = c.replace_counted-counts.new.store in
    let to : Store = c.args.prepared.store in
    let before = c.args.meter.now in
    let after = c.replace_counted-counts.new.meter in
    let kept : c.self.inside.policy ≡ Some c.in-Some.policy = sym c.take.ensures.value ∙ c.in-Some.is in
    subst (λ s. IfOk c.replace_counted-counts.result (CountsSome (AreCountedBetween s new before after))) c.self.view_is
    (told-counted inside new to (meaning_in c.in-Some.policy) (meaning_in c.args.prepared.policy)
    (subst (λ p. IsMeaningOf inside (meaning_kept p)) kept c.self.invariant) c.requires (λ m n changes. AreCountedChanges m n before after changes)
    c.replace_counted-counts.result c.replace_counted-counts.ensures.store c.replace_counted-counts.ensures.changes)

pub returns-in_ok-loaded-in-None-clause-changes : goal.returns-in_ok-loaded-in-None-clause-changes
returns-in_ok-loaded-in-None-clause-changes g c =
    let inside : Store = c.self.inside.store in
    let to : Store = c.args.prepared.store in
    let before = c.args.meter.now in
    let after = c.load_counted.new.meter in
    let counts = c.in_ok-loaded-in-None.loaded.counts in
    let none : c.self.inside.policy ≡ None = sym c.take.ensures.value ∙ c.in-None.is in
    subst (λ s. CountsSome (AreCountedBetween s to before after) counts) c.self.view_is
    (told-counted {E = Unit {0}} inside to to (meaning_of [] []) (meaning_in c.args.prepared.policy)
    (subst (λ p. IsMeaningOf inside (meaning_kept p)) none c.self.invariant) c.requires (λ m n changes. AreCountedChanges m n before after changes)
    (Ok counts) refl c.in_ok-loaded-in-None.ensures.changes)
