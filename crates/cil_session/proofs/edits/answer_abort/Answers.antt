use Rattle.std.proofs.Common.{refl, ap}
use Rattle.cil_store_specs.specs.Answers.{by_closing}
use Rattle.cil_session.proofs.SessionLemmas.{tries-weaker}
use Rattle.cil_session.proofs.edits.answer_abort.Goals as goal

pub returns : goal.returns
returns g c store =
    let W = g.W.Sink in
    let b = c.is_open.ensures.yes c.if-not-is_open.false in
    tries-weaker W.taken W.failures c.args.sink.now c.tell.new.sink _ _ c.tell.result
    (λ answer is number. by_closing b.0 refl b.1 is (ap (λ o. record { store = store; batch = o }) c.close.ensures)) c.tell.ensures
