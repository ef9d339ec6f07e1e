use Rattle.std.proofs.Common.{◌≡◌, false, sym, subst}
use Rattle.cil_specs.specs.Members.{is_member}
use Rattle.cil_store.specs.Counted.{meaning_kept}
use Rattle.cil_store.proofs.CountedPolicyLemmas.{of-kept}
use Rattle.cil_store.proofs.NothingLemmas.{none-held}
use Rattle.cil_store.proofs.StepLemmas.{means-at}
use Rattle.cil_store.proofs.delta.DeltaCompiled.has.Goals as goal

pub returns-in-Some : goal.returns-in-Some
returns-in-Some g c meaning meant =
    let self = c.self.inside in
    let kept = means-at c.self.view_is c.self.invariant in
    of-kept c.args.self.now self.policy (λ m. c.has.result ≡ is_member m c.args.attribute.now c.args.ty.now) kept
    (subst (λ p. c.has.result ≡ is_member (meaning_kept p) c.args.attribute.now c.args.ty.now) (sym c.in-Some.is) c.has.ensures) meaning meant

pub returns-in-None : goal.returns-in-None
returns-in-None g c meaning meant =
    let self = c.self.inside in
    let kept = means-at c.self.view_is c.self.invariant in
    of-kept c.args.self.now self.policy (λ m. false ≡ is_member m c.args.attribute.now c.args.ty.now) kept
    (subst (λ p. false ≡ is_member (meaning_kept p) c.args.attribute.now c.args.ty.now) (sym c.in-None.is) (none-held c.args.attribute.now c.args.ty.now)) meaning meant
