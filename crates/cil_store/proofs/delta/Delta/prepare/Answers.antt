use Rattle.cil_store.proofs.Common.{map, sym, subst, err_from_is_err_and, meaning_in, AreTaken, IsMeaningOf, Store, meaning_kept, edit_of, refusal_of, IsRefusedBatch}
use Rattle.cil_store.proofs.StepLemmas.{means-at}
use Rattle.cil_store.proofs.delta.Delta.prepare.Goals as goal

pub returns-in_err-judged-clause-err : goal.returns-in_err-judged-clause-err
returns-in_err-judged-clause-err g c =
    let made = err_from_is_err_and c.from_residual.result c.from_residual.ensures.1 in
    let refusal = refusal_of c.in_err-judged.field-0.0 in
    rw (made.1, made.2) (subst (λ (s : Store). IsRefusedBatch s (map edit_of c.args.edits.now) refusal) c.self.view_is c.in_err-judged.ensures.err)

pub returns-clause-meant : goal.returns-clause-meant
returns-clause-meant g c = (meaning_kept c.self.inside.policy, means-at c.self.view_is c.self.invariant)

pub returns-clause-taken : goal.returns-clause-taken
returns-clause-taken g c = subst (λ (s : Store). AreTaken s (map edit_of c.args.edits.now) c.in_ok-judged.judged.store) c.self.view_is c.in_ok-judged.ensures.taken

pub returns-clause-means : goal.returns-clause-means
returns-clause-means g c = subst (λ r. IsMeaningOf c.in_ok-judged.judged.store (meaning_in r)) (sym c.in_ok-policy.ensures) c.in_ok-judged.ensures.means
