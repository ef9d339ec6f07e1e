use Rattle.cil_program.proofs.Common.{◌++◌, codes}
use Rattle.cil_session.proofs.ReplyLemmas.{writes-both, writes-first}
use Rattle.cil_program.specs.Reasons.{reason_line}
use Rattle.cil_program.proofs.command_line.faults.explain.Goals as goal

pub returns-in_err-write_path : goal.returns-in_err-write_path
returns-in_err-write_path g c =
    writes-first g.E.Sink.taken g.E.Sink.failures c.args.err.now c.write_path.new.err (c.args.what.now ++ (c.args.path.now ++ codes "\n")) (reason_line c.args.reason) _ c.from_residual.result c.from_residual.ensures.0 c.in_err-write_path.ensures

pub returns : goal.returns
returns g c =
    writes-both g.E.Sink.taken g.E.Sink.failures c.args.err.now c.write_path.new.err c.write_reason.new.err (c.args.what.now ++ (c.args.path.now ++ codes "\n")) (reason_line c.args.reason) _ c.write_reason.result c.in_ok-write_path.ensures c.write_reason.ensures
