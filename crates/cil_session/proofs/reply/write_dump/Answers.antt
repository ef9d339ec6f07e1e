use Rattle.std.proofs.Common.{◌+◌, length}
use Rattle.cil_store_specs.specs.Script.{end_line, dump_commands, dump_text}
use Rattle.cil_session.proofs.ReplyLemmas.{writes-first, writes-report, dump-size}
use Rattle.cil_session.proofs.reply.write_dump.Goals as goal

pub returns : goal.returns
returns g c =
    let store = c.args.store.now in
    writes-report g.W.Sink.taken g.W.Sink.failures c.args.sink.now c.write_batch.new.sink c.write_end.new.sink (dump_text store) (c.len.result + c.disabled_len.result + 2) (length (dump_commands store)) c.write_end.result
    (dump-size store c.len.result c.disabled_len.result c.len.ensures c.disabled_len.ensures) c.in_ok-write_batch.ensures.ok c.in_ok-write_batch.ensures.counted c.write_end.ensures

pub returns-in_err-write_batch : goal.returns-in_err-write_batch
returns-in_err-write_batch g c =
    let W = g.W.Sink in
    let store = c.args.store.now in
    writes-first W.taken W.failures c.args.sink.now c.write_batch.new.sink (dump_text store) (end_line (length (dump_commands store))) _ c.from_residual.result c.from_residual.ensures.0 c.in_err-write_batch.ensures
