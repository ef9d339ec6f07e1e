use Rattle.cil_store.proofs.Common.{◌≡◌, refl, sym, subst, count_of, meaning_kept}
use Rattle.cil_rules.specs.Atoms.{atom_of}
use Rattle.cil_store.proofs.CountedPolicyLemmas.{of-kept}
use Rattle.cil_store.proofs.StepLemmas.{means-at}
use Rattle.cil_store.proofs.delta.DeltaCompiled.count.Goals as goal

pub returns-in-Some : goal.returns-in-Some
returns-in-Some g c meaning meant =
    let self = c.self.inside in
    let access = atom_of c.args.access.now in
    let kept = means-at c.self.view_is c.self.invariant in
    of-kept c.args.self.now self.policy (λ m. c.count.result ≡ count_of m access) kept (subst (λ p. c.count.result ≡ count_of (meaning_kept p) access) (sym c.in-Some.is) c.count.ensures) meaning meant

pub returns-in-None : goal.returns-in-None
returns-in-None g c meaning meant =
    let self = c.self.inside in
    let access = atom_of c.args.access.now in
    let kept = means-at c.self.view_is c.self.invariant in
    of-kept c.args.self.now self.policy (λ m. 0 ≡ count_of m access) kept (subst (λ p. 0 ≡ count_of (meaning_kept p) access) (sym c.in-None.is) refl) meaning meant
