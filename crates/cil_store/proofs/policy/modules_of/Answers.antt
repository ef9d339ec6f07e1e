use Rattle.cil_store.proofs.Common.{subst, IsStore, Store}
use Rattle.cil_store.proofs.policy.modules_of.Goals as goal

pub returns-clause-ok : goal.returns-clause-ok
returns-clause-ok g c =
    let store : Store = c.in_ok-store.store in
    (store, subst IsStore c.store.view_is c.store.invariant, c.in_ok-store.ensures.ok, c.in_ok-active_modules.ensures)
