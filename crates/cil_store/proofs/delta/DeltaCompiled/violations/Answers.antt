use Rattle.std.proofs.Common.{◌∙◌, ap, sym}
use Rattle.cil_store.specs.Counted.{meaning_kept}
use Rattle.cil_store.proofs.CountedPolicyLemmas.{violations-of-store}
use Rattle.cil_store.proofs.StepLemmas.{means-at}
use Rattle.cil_store.proofs.delta.DeltaCompiled.violations.Goals as goal

pub returns-in_ok-empty-in-None : goal.returns-in_ok-empty-in-None
returns-in_ok-empty-in-None g c =
    let self = c.self.inside in
    let kept = means-at c.self.view_is c.self.invariant in
    violations-of-store (λ found. found) c.violations-in-None-2.result c.args.self.now self.policy _ kept (c.in_ok-empty-in-None.ensures ∙ ap meaning_kept (sym c.in-None.is)) c.violations-in-None-2.ensures
