use Rattle.std.proofs.Common.{sym}
use Rattle.cil_store.proofs.NothingLemmas.{none-meant}
use Rattle.cil_store.proofs.StepLemmas.{means-at}
use Rattle.cil_store.proofs.delta.Delta.with_seed.Goals as goal

pub invariant_of-result : goal.invariant_of-result
invariant_of-result g c = means-at (sym c.new.ensures) none-meant
