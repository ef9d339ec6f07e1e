use Rattle.cil_store.proofs.Common.{map, refl, err_from_is_err_and, meaning_in, out_of_memory, edit_of, refusal_of}
use Rattle.cil_store.proofs.StepLemmas.{prepared-step, refused-step}
use Rattle.cil_store.proofs.delta.Delta.batch_counted_metered.Goals as goal

pub returns-in_err-next-clause-err : goal.returns-in_err-next-clause-err
returns-in_err-next-clause-err g c =
    let made = err_from_is_err_and c.from_residual.result c.from_residual.ensures.1 in
    rw (made.1, made.2) (refused-step c.args.self.now (map edit_of c.args.edits.now) (refusal_of c.in_err-next.field-0.0) c.in_err-next.ensures.err)

pub returns-in_err-counts-clause-err : goal.returns-in_err-counts-clause-err
returns-in_err-counts-clause-err g c =
    let made = err_from_is_err_and c.from_residual-in_err-counts.result c.from_residual-in_err-counts.ensures.1 in
    rw (made.1, made.2) (out_of_memory refl c.in_err-counts.ensures.err)

pub replace_counted-requires : goal.replace_counted-requires
replace_counted-requires g c = c.in_ok-next.ensures.means

pub returns-clause-ok : goal.returns-clause-ok
returns-clause-ok g c =
    let prepared = c.in_ok-next.ensures in
    let some = c.in_ok-counts.ensures.changes in
    record {
      changes = some.changes;
      those = prepared-step c.args.self.now c.replace_counted.new.self c.in_ok-next.next.store (map edit_of c.args.edits.now) (meaning_in c.in_ok-next.next.policy) some.changes _ _
          prepared.short prepared.taken prepared.meant prepared.means c.in_ok-counts.ensures.ok some.those;
      are_counts = some.are_counts;
    }
