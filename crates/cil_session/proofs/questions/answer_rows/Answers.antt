use Rattle.cil_session.proofs.Common.{Err, List, length, refl, ap, row_line, Store, for_memory, AreRowsOf, ask_rows, refused, listed, out_of_memory, answer_of, by_engine, asks_rules, IsAnswerFor}
use Rattle.std.proofs.Common.{flat_map}
use Rattle.cil_specs.specs.Report.{Row}
use Rattle.cil_store_specs.specs.Run.{lists}
use Rattle.cil_session.proofs.SessionLemmas.{tries-report, tries-told, tries-cut}
use Rattle.cil_session.proofs.ReplyLemmas.{writes-later}
use Rattle.cil_session.proofs.questions.answer_rows.Goals as goal

answers : (store : Store) (rows : List Row) → AreRowsOf store rows → IsAnswerFor store asks_rules (answer_of (listed rows))
answers store rows are batch number = by_engine ask_rows (listed rows) refl (lists rows refl refl are refl) refl refl

pub returns-in-Ok : goal.returns-in-Ok
returns-in-Ok g c =
    let some = c.in-Ok.ensures.ok in
    tries-report (flat_map row_line some.0) _ (answers _ some.0 some.1) some.2 some.3 c.in-Ok.ensures.counted c.write_end.ensures c.and.ensures

pub returns-in-Err-Memory : goal.returns-in-Err-Memory
returns-in-Err-Memory g c =
    let none = c.in-Err-Memory.ensures in
    tries-told (answer_of (refused for_memory)) _ (λ batch number. by_engine ask_rows (refused for_memory) refl (out_of_memory refl refl) refl refl)
    (writes-later _ _ _ _ _ _ _ (none.memory (ap Err c.in-Err-Memory.field-0-is)) none.counted c.write_no_memory.ensures) c.and-in-Err-Memory.ensures

pub returns-in-Err-Sink : goal.returns-in-Err-Sink
returns-in-Err-Sink g c =
    let cut = c.in-Err-Sink.ensures in
    tries-cut (flat_map row_line cut.err.0) (length cut.err.0) (answers _ cut.err.0 cut.err.1) cut.err.2 (cut.failed (ap Err c.in-Err-Sink.field-0-is)) cut.counted
