use Rattle.cil_session.proofs.Common.{length, arith, front-longer, modules_text, end_line}
use Rattle.cil_session.proofs.ReplyLemmas.{writes-cut, writes-report}
use Rattle.cil_session.proofs.reply.write_modules.Goals as goal

pub returns : goal.returns
returns g c =
    let store = c.args.store.now in
    writes-report g.W.Sink.taken g.W.Sink.failures c.args.sink.now c.write_entries.new.sink c.write_end.new.sink (modules_text store) c.len.result (length store.entries) c.write_end.result c.len.ensures c.in_ok-write_entries.ensures.ok
    c.in_ok-write_entries.ensures.counted c.write_end.ensures

pub returns-in_err-write_entries : goal.returns-in_err-write_entries
returns-in_err-write_entries g c =
    let taken = g.W.Sink.taken in
    let store = c.args.store.now in
    writes-cut taken g.W.Sink.failures c.args.sink.now c.args.sink.now c.write_entries.new.sink _ c.from_residual.result c.from_residual.ensures.0 (omega arith) c.in_err-write_entries.ensures.failed c.in_err-write_entries.ensures.counted
    (front-longer (taken c.args.sink.now) (taken c.write_entries.new.sink) (modules_text store) (end_line (length store.entries)) c.in_err-write_entries.ensures.err)
