use Rattle.cil_stream.proofs.Gaining.{gains-pieces_front}
use Rattle.cil_program.specs.Kinds.{kind_in, kind_line}
use Rattle.cil_session.proofs.ReplyLemmas.{writes-cut}
use Rattle.cil_program.proofs.command_line.kinds.write_lines.Goals as goal

pub returns-in_err-write_kind : goal.returns-in_err-write_kind
returns-in_err-write_kind g c =
    let taken = g.W.Sink.taken in
    writes-cut taken g.W.Sink.failures c.args.out.now c.loop-kind.out c.write_kind.new.out _ c.from_residual.result c.from_residual.ensures.0 c.loop-kind.invariant.counted c.in_err-write_kind.ensures.failed c.in_err-write_kind.ensures.counted
    (gains-pieces_front (λ kind. kind_line c.args.tally.now (kind_in kind)) (taken c.args.out.now) (taken c.loop-kind.out) (taken c.write_kind.new.out) c.args.kinds.now c.loop-kind.kind-index _ c.loop-kind-test.true c.loop-kind.invariant.so_far c.in_err-write_kind.ensures.err)
