use Rattle.cil_violations.proofs.Common.{on_err, gains-pieces_front, shared_text}
use Rattle.cil_violations.proofs.line.write_permissions.Goals as goal

pub returns-in_err-write_permission-clause-err : goal.returns-in_err-write_permission-clause-err
returns-in_err-write_permission-clause-err g c =
    let taken = g.W.Sink.taken in
    on_err c.from_residual.result
    (gains-pieces_front (shared_text c.args.resolved.now c.args.allowed.now) (taken c.args.sink.now) (taken c.loop-permission.sink) (taken c.write_permission.new.sink) c.args.never.now c.loop-permission.permission-index (record { class = 0; permission = 0 })
    c.loop-permission-test.true c.loop-permission.invariant.so_far c.in_err-write_permission.ensures.err)
