use Rattle.cil_store.proofs.Common.{◌∙◌, map, refl, sym, subst, err_from_is_err_and, meaning_in, IsMeaningOf, Step, a_batch, changed_by, out_of_memory, Store, edit_of, refusal_of, IsRefusedBatch}
use Rattle.cil_store.proofs.StepLemmas.{means-at, prepared-step, refused-step}
use Rattle.cil_store.proofs.plain.PlainCompiled.batch.Goals as goal

pub returns-in_err-prepared : goal.returns-in_err-prepared
returns-in_err-prepared g c =
    let made = err_from_is_err_and c.from_residual.result c.from_residual.ensures.1 in
    let edits = map edit_of c.args.edits.now in
    let refusal = refusal_of c.in_err-prepared.field-0.0 in
    rw (made.1, made.2) (refused-step c.args.self.now edits refusal (subst (λ (s : Store). IsRefusedBatch s edits refusal) c.self.view_is c.in_err-prepared.ensures.err))

pub returns-in_err-anew : goal.returns-in_err-anew
returns-in_err-anew g c =
    let made = err_from_is_err_and c.from_residual-in_err-anew.result c.from_residual-in_err-anew.ensures.1 in
    rw (made.1, made.2) (out_of_memory refl refl)

pub returns-in_err-changes : goal.returns-in_err-changes
returns-in_err-changes g c =
    let made = err_from_is_err_and c.from_residual-in_err-changes.result c.from_residual-in_err-changes.ensures.1 in
    rw (made.1, made.2) (out_of_memory refl (c.in_err-changes.ensures.err ∙ c.self.view_is))

pub replace-requires : goal.replace-requires
replace-requires g c = c.in_ok-prepared.ensures.means

pub put-requires : goal.put-requires
put-requires g c =
    let new : Store = c.replace.new.self in
    subst (λ r. IsMeaningOf new (meaning_in r)) (sym c.in_ok-anew.ensures) (means-at (sym c.in_ok-changes.ensures.ok) c.in_ok-prepared.ensures.means)

pub returns : goal.returns
returns g c =
    let inside : Store = c.self.inside.delta in
    let edits = map edit_of c.args.edits.now in
    let prepared = c.in_ok-prepared.ensures in
    let changes = c.in_ok-changes.changes in
    subst (λ (s : Store). Step s (a_batch edits) (changed_by changes) c.put.new.self) c.self.view_is
    (subst (λ (s : Store). Step inside (a_batch edits) (changed_by changes) s) (sym c.put.ensures)
    (prepared-step inside c.replace.new.self c.in_ok-prepared.prepared.store edits (meaning_in c.in_ok-prepared.prepared.policy) changes _ _
    prepared.short prepared.taken prepared.meant prepared.means c.in_ok-changes.ensures.ok c.in_ok-changes.ensures.changes))
