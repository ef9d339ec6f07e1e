use Rattle.cil_session.proofs.Common.{◌≤◌, ◌<◌, ◌+◌, length, take, sym, subst, arith, Gains, dropped_line}
use Rattle.std.proofs.Common.{flat_map}
use Rattle.cil_resolve.specs.Views.{declared_seen}
use Rattle.cil_session.proofs.ReplyLemmas.{writes-cut, line-more, line-front, some-within}
use Rattle.cil_session.proofs.reply.write_optionals.Goals as goal
use Rattle.cil_session.proofs.reply.write_optionals.Goals.{in-Some+in_ok-write_optional, in_default}

pub returns-in_err-write_optional : goal.returns-in_err-write_optional
returns-in_err-write_optional g c =
    let taken = g.W.Sink.taken in
    writes-cut taken g.W.Sink.failures c.args.sink.now c.loop-i.sink c.write_optional.new.sink _ c.from_residual.result c.from_residual.ensures.0 c.loop-i.invariant.counted c.in_err-write_optional.ensures.failed c.in_err-write_optional.ensures.counted
    (line-front dropped_line (taken c.args.sink.now) (taken c.loop-i.sink) (taken c.write_optional.new.sink) c.args.dropped.now c.loop-i.i (declared_seen c.in-Some.optional) c.in-Some.ensures c.loop-i.invariant.so_far c.in_err-write_optional.ensures.err)

pub loop-i-preserved : goal.loop-i-preserved
loop-i-preserved g c =
    let taken = g.W.Sink.taken in
    let failures = g.W.Sink.failures in
    let within : c.loop-i.i < length c.args.dropped.now = subst (λ n. c.loop-i.i < n) c.len-i-end.ensures c.loop-i-test.true in
    elim c.match-get.branch [
      | in-Some+in_ok-write_optional w ↦ record {
        counted = subst (λ s. failures c.args.sink.now ≤ failures s) (sym w.sink-is) (omega (arith, c.loop-i.invariant.counted, w.write_optional.ensures.counted));
        so_far = subst (λ s. Gains (taken c.args.sink.now) (taken s) (flat_map dropped_line (take (c.loop-i.i + 1) c.args.dropped.now))) (sym w.sink-is)
            (line-more dropped_line (taken c.args.sink.now) (taken c.loop-i.sink) (taken w.write_optional.new.sink) c.args.dropped.now c.loop-i.i (declared_seen w.in-Some.optional) w.in-Some.ensures c.loop-i.invariant.so_far w.in_ok-write_optional.ensures.ok);
      }
      | in_default w ↦ absurd (some-within c.args.dropped.now c.loop-i.i within w.in_default.ensures)
    ]
