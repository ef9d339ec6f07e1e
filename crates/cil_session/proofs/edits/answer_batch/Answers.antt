use Rattle.cil_session.proofs.Common.{refl, refused, answer_of, a_line, refusal_of, counts_line}
use Rattle.cil_session.proofs.SessionLemmas.{tries-told}
use Rattle.cil_session.proofs.edits.answer_batch.Goals as goal

pub returns-in-Ok : goal.returns-in-Ok
returns-in-Ok g c = rw c.in-Ok.is (tries-told (a_line (counts_line c.in-Ok.counts)) _ refl c.write_changes.ensures c.and.ensures)

pub returns-in-Err : goal.returns-in-Err
returns-in-Err g c = rw c.in-Err.is (tries-told (answer_of (refused (refusal_of c.in-Err.refusal))) _ refl c.write_refusal.ensures c.and-in-Err.ensures)
