use Rattle.cil_session.proofs.Common.{refl, for_memory, ask_dropped, refused, dropped_optionals, tells_dropped, out_of_memory, answer_of, by_engine}
use Rattle.cil_session.proofs.SessionLemmas.{tries-told}
use Rattle.cil_session.proofs.questions.answer_dropped.Goals as goal

pub returns-in-Ok : goal.returns-in-Ok
returns-in-Ok g c =
    let reply = dropped_optionals c.in-Ok.dropped in
    tries-told (answer_of reply) _ (λ batch number. by_engine ask_dropped reply refl (tells_dropped c.in-Ok.dropped refl refl c.in-Ok.ensures refl) refl refl) c.write_dropped.ensures c.and.ensures

pub returns-in-Err : goal.returns-in-Err
returns-in-Err g c =
    tries-told (answer_of (refused for_memory)) _ (λ batch number. by_engine ask_dropped (refused for_memory) refl (out_of_memory refl refl) refl refl) c.write_no_memory.ensures c.and-in-Err.ensures
