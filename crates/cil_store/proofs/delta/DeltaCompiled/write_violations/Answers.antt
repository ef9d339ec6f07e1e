use Rattle.cil_store.proofs.Common.{[], refl, gains-none}
use Rattle.cil_store.proofs.CountedPolicyLemmas.{nothing-violated}
use Rattle.cil_store.proofs.StepLemmas.{means-at}
use Rattle.cil_store.proofs.delta.DeltaCompiled.write_violations.Goals as goal

pub returns-in_default-clause-ok : goal.returns-in_default-clause-ok
returns-in_default-clause-ok g c =
    let self = c.self.inside in (
      [],
      nothing-violated c.args.self.now self.policy c.in_default.is (means-at c.self.view_is c.self.invariant),
      refl,
      gains-none (g.W.Sink.taken c.args.sink.now),
    )
