use Rattle.std.proofs.Common.{sym}
use Rattle.cil_store.proofs.StepLemmas.{means-at}
use Rattle.cil_store.proofs.delta.Delta.put.Goals as goal

pub invariant_of-self : goal.invariant_of-self
invariant_of-self g c = means-at (sym c.self.view_is) c.requires
