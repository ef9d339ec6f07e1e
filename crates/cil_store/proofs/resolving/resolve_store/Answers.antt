use Rattle.cil_store.proofs.Common.{subst, IsStore, Store, err_from_is_err_and}
use Rattle.cil_store.proofs.resolving.resolve_store.Goals as goal

pub resolve_modules-requires : goal.resolve_modules-requires
resolve_modules-requires g c =
    let store : Store = c.args.store.now in
    (store, subst IsStore c.store.view_is c.store.invariant, rw c.as_slice.ensures.value c.in_ok-modules.ensures)

pub returns-in_err-resolved-clause-err : goal.returns-in_err-resolved-clause-err
returns-in_err-resolved-clause-err g c =
    let made = err_from_is_err_and c.from_residual-in_err-resolved.result c.from_residual-in_err-resolved.ensures.1 in
    let store : Store = c.args.store.now in
    rw (made.1, made.2) (c.in_err-resolved.ensures.err store (subst IsStore c.store.view_is c.store.invariant) (rw c.as_slice.ensures.value c.in_ok-modules.ensures))

pub returns-clause-ok : goal.returns-clause-ok
returns-clause-ok g c =
    let store : Store = c.args.store.now in
    c.in_ok-resolved.ensures.ok store (subst IsStore c.store.view_is c.store.invariant) (rw c.as_slice.ensures.value c.in_ok-modules.ensures)
