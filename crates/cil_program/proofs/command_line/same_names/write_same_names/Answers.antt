use Rattle.std.proofs.Common.{arith}
use Rattle.cil_stream.proofs.Gaining.{gains-pieces_front, gains-pieces_more}
use Rattle.cil_program.specs.Given.{same_name_line}
use Rattle.cil_session.proofs.ReplyLemmas.{writes-cut}
use Rattle.cil_program.proofs.command_line.same_names.write_same_names.Goals as goal

pub returns-in_err-write_same_name : goal.returns-in_err-write_same_name
returns-in_err-write_same_name g c =
    let taken = g.E.Sink.taken in
    writes-cut taken g.E.Sink.failures c.args.err.now c.loop-path.err c.write_same_name.new.err _ c.from_residual.result c.from_residual.ensures.0 c.loop-path.invariant.counted c.in_err-write_same_name.ensures.failed c.in_err-write_same_name.ensures.counted
    (gains-pieces_front (λ path. same_name_line path.now) (taken c.args.err.now) (taken c.loop-path.err) (taken c.write_same_name.new.err) c.args.paths.now c.loop-path.path-index _ c.loop-path-test.true c.loop-path.invariant.so_far
    c.in_err-write_same_name.ensures.err)

pub loop-path-preserved : goal.loop-path-preserved
loop-path-preserved g c =
    let taken = g.E.Sink.taken in record {
      counted = omega (arith, c.loop-path.invariant.counted, c.write_same_name.ensures.counted);
      so_far = gains-pieces_more (λ path. same_name_line path.now) (taken c.args.err.now) (taken c.loop-path.err) (taken c.write_same_name.new.err) c.args.paths.now c.loop-path.path-index _ c.loop-path-test.true c.loop-path.invariant.so_far
          c.in_ok-write_same_name.ensures.ok;
    }
