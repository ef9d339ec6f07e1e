use Rattle.cil_session.proofs.Common.{length, arith, dropped_line, front-longer, end_line}
use Rattle.std.proofs.Common.{flat_map}
use Rattle.cil_session.proofs.ReplyLemmas.{writes-cut, writes-report}
use Rattle.cil_session.proofs.reply.write_dropped.Goals as goal

pub returns : goal.returns
returns g c =
    let dropped = c.args.dropped.now in
    writes-report g.W.Sink.taken g.W.Sink.failures c.args.sink.now c.write_optionals.new.sink c.write_end.new.sink (flat_map dropped_line dropped) c.len.result (length dropped) c.write_end.result c.len.ensures c.in_ok-write_optionals.ensures.ok
    c.in_ok-write_optionals.ensures.counted c.write_end.ensures

pub returns-in_err-write_optionals : goal.returns-in_err-write_optionals
returns-in_err-write_optionals g c =
    let taken = g.W.Sink.taken in
    let dropped = c.args.dropped.now in
    writes-cut taken g.W.Sink.failures c.args.sink.now c.args.sink.now c.write_optionals.new.sink _ c.from_residual.result c.from_residual.ensures.0 (omega arith) c.in_err-write_optionals.ensures.failed c.in_err-write_optionals.ensures.counted
    (front-longer (taken c.args.sink.now) (taken c.write_optionals.new.sink) (flat_map dropped_line dropped) (end_line (length dropped)) c.in_err-write_optionals.ensures.err)
