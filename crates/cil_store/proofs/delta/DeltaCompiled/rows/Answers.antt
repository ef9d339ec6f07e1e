use Rattle.cil_store.proofs.Common.{List, Atom}
use Rattle.cil_store.proofs.CountedPolicyLemmas.{rows-of-store}
use Rattle.cil_store.proofs.StepLemmas.{means-at}
use Rattle.cil_store.proofs.delta.DeltaCompiled.rows.Goals as goal

pub returns : goal.returns
returns g c =
    let self = c.self.inside in
    let kept = means-at c.self.view_is c.self.invariant in
    let table : List Atom = c.in_ok-table.field-0 in
    rows-of-store (λ rows. rows) c.rows-2.result c.args.self.now self.policy table kept c.in_ok-table.ensures c.rows-2.ensures
