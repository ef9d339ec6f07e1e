use Rattle.cil_session.proofs.Common.{◌++◌, codes, dump_edits, edit_command}
use Rattle.std.proofs.Common.{flat_map}
use Rattle.cil_session.proofs.ReplyLemmas.{writes-both, writes-first, dump-is}
use Rattle.cil_session.proofs.reply.write_batch.Goals as goal

pub returns : goal.returns
returns g c =
    let W = g.W.Sink in
    let edits = flat_map edit_command (dump_edits c.args.store.now) in
    rw (← dump-is c.args.store.now)
    (writes-both W.taken W.failures c.args.sink.now c.write_all.new.sink c.write_all-2.new.sink (codes "begin\n") (edits ++ codes "commit\n") _ c.write_all-2.result
    (record { ok = c.in_ok-write_all.ensures.ok; err = tt; failed = tt; counted = c.in_ok-write_all.ensures.counted })
    (writes-both W.taken W.failures c.write_all.new.sink c.write_edits.new.sink c.write_all-2.new.sink edits (codes "commit\n") _ c.write_all-2.result c.in_ok-write_edits.ensures
    (record { ok = c.write_all-2.ensures.ok; err = c.write_all-2.ensures.err; failed = c.write_all-2.ensures.failed; counted = c.write_all-2.ensures.counted })))

pub returns-in_err-write_all : goal.returns-in_err-write_all
returns-in_err-write_all g c =
    let W = g.W.Sink in
    let edits = flat_map edit_command (dump_edits c.args.store.now) in
    rw (← dump-is c.args.store.now)
    (writes-first W.taken W.failures c.args.sink.now c.write_all.new.sink (codes "begin\n") (edits ++ codes "commit\n") _ c.from_residual.result c.from_residual.ensures.0
    (record { ok = tt; err = c.in_err-write_all.ensures.err; failed = c.in_err-write_all.ensures.failed; counted = c.in_err-write_all.ensures.counted }))

pub returns-in_err-write_edits : goal.returns-in_err-write_edits
returns-in_err-write_edits g c =
    let W = g.W.Sink in
    let edits = flat_map edit_command (dump_edits c.args.store.now) in
    let r = c.from_residual-in_err-write_edits in
    rw (← dump-is c.args.store.now)
    (writes-both W.taken W.failures c.args.sink.now c.write_all.new.sink c.write_edits.new.sink (codes "begin\n") (edits ++ codes "commit\n") _ r.result
    (record { ok = c.in_ok-write_all.ensures.ok; err = tt; failed = tt; counted = c.in_ok-write_all.ensures.counted })
    (writes-first W.taken W.failures c.write_all.new.sink c.write_edits.new.sink edits (codes "commit\n") _ r.result r.ensures.0 c.in_err-write_edits.ensures))
