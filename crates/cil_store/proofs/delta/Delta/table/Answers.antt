use Rattle.cil_store.proofs.Common.{[], sym, subst, IfOk, is_in_table, AreAtoms, listed, meaning_kept}
use Rattle.cil_store.proofs.CountedPolicyLemmas.{atoms-of, of-kept, nothing-listed}
use Rattle.cil_store.proofs.StepLemmas.{means-at}
use Rattle.cil_store.proofs.delta.Delta.table.Goals as goal

pub returns-in-Some : goal.returns-in-Some
returns-in-Some g c =
    let self = c.self.inside in
    let kept = means-at c.self.view_is c.self.invariant in
    atoms-of (λ table. table) c.table.result c.args.self.now self.policy kept (subst (λ p. IfOk c.table.result (λ table. AreAtoms (listed (is_in_table (meaning_kept p))) table)) (sym c.in-Some.is) c.table.ensures)

pub returns-in-None : goal.returns-in-None
returns-in-None g c meaning meant =
    let self = c.self.inside in
    let kept = means-at c.self.view_is c.self.invariant in
    subst (AreAtoms (listed (is_in_table meaning))) (sym c.empty.ensures) (of-kept c.args.self.now self.policy (λ m. AreAtoms (listed (is_in_table m)) []) kept (nothing-listed self.policy c.in-None.is) meaning meant)
