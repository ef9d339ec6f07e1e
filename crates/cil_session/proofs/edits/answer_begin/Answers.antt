use Rattle.std.proofs.Common.{refl}
use Rattle.cil_store_specs.specs.Answers.{is_open}
use Rattle.cil_session.proofs.SessionLemmas.{tries-weaker}
use Rattle.cil_session.proofs.edits.answer_begin.Goals as goal

pub returns-then-is_open : goal.returns-then-is_open
returns-then-is_open g c store =
    let W = g.W.Sink in
    let b = c.is_open.ensures.yes c.if-is_open.true in
    tries-weaker W.taken W.failures c.args.sink.now c.refuse.new.sink _ _ c.refuse.result (λ answer is. is_open b.0 refl b.1 is refl) c.refuse.ensures
