use Rattle.cil_session.proofs.Common.{◌≤◌, ◌<◌, ◌+◌, length, take, sym, subst, arith, Gains, disable_command}
use Rattle.std.proofs.Common.{flat_map}
use Rattle.cil_session.proofs.ReplyLemmas.{writes-cut, line-more, line-front, some-within}
use Rattle.cil_session.proofs.reply.write_disables.Goals as goal
use Rattle.cil_session.proofs.reply.write_disables.Goals.{in-Some+in_ok-write_disable, in_default}

pub returns-in_err-write_disable : goal.returns-in_err-write_disable
returns-in_err-write_disable g c =
    let taken = g.W.Sink.taken in
    writes-cut taken g.W.Sink.failures c.args.sink.now c.loop-i.sink c.write_disable.new.sink _ c.from_residual.result c.from_residual.ensures.0 c.loop-i.invariant.counted c.in_err-write_disable.ensures.failed c.in_err-write_disable.ensures.counted
    (line-front disable_command (taken c.args.sink.now) (taken c.loop-i.sink) (taken c.write_disable.new.sink) c.args.store.now.disabled c.loop-i.i c.in-Some.name.now c.in-Some.ensures c.loop-i.invariant.so_far c.in_err-write_disable.ensures.err)

pub loop-i-preserved : goal.loop-i-preserved
loop-i-preserved g c =
    let taken = g.W.Sink.taken in
    let failures = g.W.Sink.failures in
    let names = c.args.store.now.disabled in
    let within : c.loop-i.i < length names = subst (λ n. c.loop-i.i < n) c.disabled_len-i-end.ensures c.loop-i-test.true in
    elim c.match-disabled.branch [
      | in-Some+in_ok-write_disable w ↦ record {
        counted = subst (λ s. failures c.args.sink.now ≤ failures s) (sym w.sink-is) (omega (arith, c.loop-i.invariant.counted, w.write_disable.ensures.counted));
        so_far = subst (λ s. Gains (taken c.args.sink.now) (taken s) (flat_map disable_command (take (c.loop-i.i + 1) names))) (sym w.sink-is)
            (line-more disable_command (taken c.args.sink.now) (taken c.loop-i.sink) (taken w.write_disable.new.sink) names c.loop-i.i w.in-Some.name.now w.in-Some.ensures c.loop-i.invariant.so_far w.in_ok-write_disable.ensures.ok);
      }
      | in_default w ↦ absurd (some-within names c.loop-i.i within w.in_default.ensures)
    ]
