use Rattle.cil_session.proofs.Common.{Err, List, length, refl, ap, Store, for_memory, AreViolationsOf, ask_violations, refused, violated, tells_violations, out_of_memory, answer_of, by_engine, asks_violations, IsAnswerFor}
use Rattle.cil_specs.specs.Violations.{Violation, violations_text}
use Rattle.cil_session.proofs.SessionLemmas.{tries-report, tries-told, tries-cut}
use Rattle.cil_session.proofs.ReplyLemmas.{writes-later}
use Rattle.cil_session.proofs.questions.answer_violations.Goals as goal

answers : (store : Store) (violations : List Violation) → AreViolationsOf store violations → IsAnswerFor store asks_violations (answer_of (violated violations))
answers store violations are batch number = by_engine ask_violations (violated violations) refl (tells_violations violations refl refl are refl) refl refl

pub returns-in-Ok : goal.returns-in-Ok
returns-in-Ok g c =
    let some = c.in-Ok.ensures.ok in
    tries-report (violations_text some.0) _ (answers _ some.0 some.1) some.2 some.3 c.in-Ok.ensures.counted c.write_end.ensures c.and.ensures

pub returns-in-Err-Memory : goal.returns-in-Err-Memory
returns-in-Err-Memory g c =
    let none = c.in-Err-Memory.ensures in
    tries-told (answer_of (refused for_memory)) _ (λ batch number. by_engine ask_violations (refused for_memory) refl (out_of_memory refl refl) refl refl)
    (writes-later _ _ _ _ _ _ _ (none.memory (ap Err c.in-Err-Memory.field-0-is)) none.counted c.write_no_memory.ensures) c.and-in-Err-Memory.ensures

pub returns-in-Err-Sink : goal.returns-in-Err-Sink
returns-in-Err-Sink g c =
    let cut = c.in-Err-Sink.ensures in
    let is = ap Err c.in-Err-Sink.field-0-is in
    let some = cut.err is in
    tries-cut (violations_text some.0) (length some.0) (answers _ some.0 some.1) some.2 (cut.failed is) cut.counted
