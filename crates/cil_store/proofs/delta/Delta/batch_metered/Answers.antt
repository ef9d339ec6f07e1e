use Rattle.cil_store.proofs.Common.{map, refl, err_from_is_err_and, meaning_in, out_of_memory, edit_of, refusal_of}
use Rattle.cil_store.proofs.StepLemmas.{prepared-step, refused-step}
use Rattle.cil_store.proofs.delta.Delta.batch_metered.Goals as goal

pub returns-in_err-prepared-clause-step : goal.returns-in_err-prepared-clause-step
returns-in_err-prepared-clause-step g c =
    let made = err_from_is_err_and c.from_residual.result c.from_residual.ensures.1 in
    rw (made.1, made.2) (refused-step c.args.self.now (map edit_of c.args.edits.now) (refusal_of c.in_err-prepared.field-0.0) c.in_err-prepared.ensures.err)

pub returns-in_err-changes-clause-step : goal.returns-in_err-changes-clause-step
returns-in_err-changes-clause-step g c =
    let made = err_from_is_err_and c.from_residual-in_err-changes.result c.from_residual-in_err-changes.ensures.1 in
    rw (made.1, made.2) (out_of_memory refl c.in_err-changes.ensures.err)

pub replace-requires : goal.replace-requires
replace-requires g c = c.in_ok-prepared.ensures.means

pub returns-clause-step : goal.returns-clause-step
returns-clause-step g c =
    let prepared = c.in_ok-prepared.ensures in
    prepared-step c.args.self.now c.replace.new.self c.in_ok-prepared.prepared.store (map edit_of c.args.edits.now) (meaning_in c.in_ok-prepared.prepared.policy) c.in_ok-changes.changes _ _
    prepared.short prepared.taken prepared.meant prepared.means c.in_ok-changes.ensures.ok c.in_ok-changes.ensures.changes
