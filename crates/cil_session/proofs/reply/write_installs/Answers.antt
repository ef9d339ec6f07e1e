use Rattle.cil_session.proofs.Common.{◌<◌, [], length, subst, arith, Gains, GainsFront, gains-pieces_more, gains-pieces_front, entry_at, install_command}
use Rattle.cil_session.proofs.ReplyLemmas.{writes-cut}
use Rattle.cil_session.proofs.reply.write_installs.Goals as goal

pub returns-in_err-write_install : goal.returns-in_err-write_install
returns-in_err-write_install g c =
    let taken = g.W.Sink.taken in
    let store = c.args.store.now in
    let within : c.loop-i.i < length store.entries = subst (λ n. c.loop-i.i < n) c.len-i-end.ensures c.loop-i-test.true in
    writes-cut taken g.W.Sink.failures c.args.sink.now c.loop-i.sink c.write_install.new.sink _ c.from_residual.result c.from_residual.ensures.0 c.loop-i.invariant.counted c.in_err-write_install.ensures.failed c.in_err-write_install.ensures.counted
    (gains-pieces_front install_command (taken c.args.sink.now) (taken c.loop-i.sink) (taken c.write_install.new.sink) store.entries c.loop-i.i (entry_at [] 0) within c.loop-i.invariant.so_far
    (subst (λ e. GainsFront (taken c.loop-i.sink) (taken c.write_install.new.sink) (install_command e)) c.at.ensures c.in_err-write_install.ensures.err))

pub loop-i-preserved : goal.loop-i-preserved
loop-i-preserved g c =
    let taken = g.W.Sink.taken in
    let store = c.args.store.now in
    let within : c.loop-i.i < length store.entries = subst (λ n. c.loop-i.i < n) c.len-i-end.ensures c.loop-i-test.true in
    record {
      counted = omega (arith, c.loop-i.invariant.counted, c.write_install.ensures.counted);
      so_far = gains-pieces_more install_command (taken c.args.sink.now) (taken c.loop-i.sink) (taken c.write_install.new.sink) store.entries c.loop-i.i (entry_at [] 0) within c.loop-i.invariant.so_far
          (subst (λ e. Gains (taken c.loop-i.sink) (taken c.write_install.new.sink) (install_command e)) c.at.ensures c.in_ok-write_install.ensures.ok);
    }
