use Rattle.std.proofs.Common.{sym}
use Rattle.cil_store.proofs.StepLemmas.{means-at}
use Rattle.cil_store.proofs.plain.PlainCompiled.count.Goals as goal

pub returns : goal.returns
returns g c meaning meant = c.count.ensures meaning (means-at (sym c.self.view_is) meant)
