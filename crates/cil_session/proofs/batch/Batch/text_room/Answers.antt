use Rattle.std.proofs.Common.{◌∙◌, sym}
use Rattle.std.proofs.lemmas.Result.{err_from_is_err_and}
use Rattle.cil_session.proofs.BatchLemmas.{no-memory}
use Rattle.cil_session.proofs.batch.Batch.text_room.Goals as goal

pub returns-in_err-check-clause-err : goal.returns-in_err-check-clause-err
returns-in_err-check-clause-err g c =
    let made = err_from_is_err_and c.from_residual.result c.from_residual.ensures.1 in
    rw (made.1, made.2) (λ b edit found size. c.in_err-check.ensures.err b edit found (size ∙ sym c.min-len.ensures))

pub returns-in_err-with_capacity-clause-err : goal.returns-in_err-with_capacity-clause-err
returns-in_err-with_capacity-clause-err g c =
    let made = err_from_is_err_and c.from_residual-in_err-with_capacity.result c.from_residual-in_err-with_capacity.ensures.1 in
    rw (made.1, made.2) (λ b edit found size. no-memory c.args.self.now edit c.min-len.result (size ∙ sym c.min-len.ensures) c.in_ok-check.ensures.ok b found)
