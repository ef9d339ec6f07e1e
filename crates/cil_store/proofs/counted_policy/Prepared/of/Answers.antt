use Rattle.cil_store.proofs.Common.{◌∙◌, map, ap, sym, subst, err_from_is_err_and, meaning_in, AreTaken, IsMeaningOf, Store, empty, edit_of, refusal_of, AreRefused}
use Rattle.cil_store.proofs.counted_policy.Prepared.of.Goals as goal

pub returns-in_err-judged-clause-err : goal.returns-in_err-judged-clause-err
returns-in_err-judged-clause-err g c =
    let made = err_from_is_err_and c.from_residual-in_err-judged.result c.from_residual-in_err-judged.ensures.1 in
    let refusal = refusal_of c.in_err-judged.field-0.0 in
    rw (made.1, made.2)
    (subst (λ es. AreRefused empty es refusal) (ap (map edit_of) c.deref.ensures.value ∙ c.in_ok-edits.ensures)
    (subst (λ (s : Store). AreRefused s (map edit_of c.deref.result.now) refusal) c.new.ensures c.in_err-judged.ensures.err))

pub returns-clause-taken : goal.returns-clause-taken
returns-clause-taken g c =
    let new : Store = c.in_ok-judged.judged.store in
    subst (λ es. AreTaken empty es new) (ap (map edit_of) c.deref.ensures.value ∙ c.in_ok-edits.ensures)
    (subst (λ (s : Store). AreTaken s (map edit_of c.deref.result.now) new) c.new.ensures c.in_ok-judged.ensures.taken)

pub returns-clause-means : goal.returns-clause-means
returns-clause-means g c = subst (λ r. IsMeaningOf c.in_ok-judged.judged.store (meaning_in r)) (sym c.in_ok-policy.ensures) c.in_ok-judged.ensures.means
