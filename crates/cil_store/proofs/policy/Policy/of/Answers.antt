use Rattle.cil_store.proofs.Common.{map, sym, subst, refl, err_from_is_err_and, meaning_in, all_good, IsMeaningOf, Store, empty, install_of, owned_entry, refusal_of}
use Rattle.cil_store.proofs.BatchLemmas.{policy-refused-all, stopped-refused}
use Rattle.cil_store.proofs.policy.Policy.of.Goals as goal

pub resolve_modules-requires : goal.resolve_modules-requires
resolve_modules-requires g c =
    let found = c.in_ok-modules.ensures.ok in
    (found.0, found.1, rw c.as_slice.ensures.value found.3)

pub returns-in_err-modules-clause-err : goal.returns-in_err-modules-clause-err
returns-in_err-modules-clause-err g c =
    let made = err_from_is_err_and c.from_residual.result c.from_residual.ensures.1 in
    let edits = map install_of (map owned_entry c.args.entries.items) in
    rw (made.1, made.2) (stopped-refused empty edits (refusal_of c.in_err-modules.field-0.0) c.in_err-modules.ensures.err)

pub returns-in_err-resolved-clause-err : goal.returns-in_err-resolved-clause-err
returns-in_err-resolved-clause-err g c =
    let made = err_from_is_err_and c.from_residual-in_err-resolved.result c.from_residual-in_err-resolved.ensures.1 in
    let found = c.in_ok-modules.ensures.ok in
    let edits = map install_of (map owned_entry c.args.entries.items) in
    let refusal = refusal_of c.in_err-resolved.field-0.0 in
    rw (made.1, made.2)
    (policy-refused-all empty found.0 edits refusal found.2 (c.in_err-resolved.ensures.err found.0 found.1 (rw c.as_slice.ensures.value found.3)))

pub returns-clause-ok : goal.returns-clause-ok
returns-clause-ok g c =
    let found = c.in_ok-modules.ensures.ok in
    let to : Store = found.0 in
    let means = subst (λ r. IsMeaningOf to (meaning_in r)) (sym c.in_ok-policy.ensures) (c.in_ok-resolved.ensures.ok to found.1 (rw c.as_slice.ensures.value found.3)) in
    (to, all_good to _ found.2 means refl, means)
