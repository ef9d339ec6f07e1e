use Rattle.cil_program.proofs.Common.{true}
use Rattle.cil_program.proofs.MeaningLemmas.{writes-explained, writes-its_front}
use Rattle.cil_program.specs.ByNames.{refusal_for}
use Rattle.cil_program.proofs.command_line.notes.write_fault.Goals as goal

pub returns-in_err-write_fault_line : goal.returns-in_err-write_fault_line
returns-in_err-write_fault_line g c =
    writes-its_front g.E.Sink.taken g.E.Sink.failures c.args.err.now c.write_fault_line.new.err true (refusal_for c.args.fault) _ c.from_residual.result c.from_residual.ensures.0 c.in_err-write_fault_line.ensures

pub returns : goal.returns
returns g c =
    writes-explained g.E.Sink.taken g.E.Sink.failures c.args.err.now c.write_fault_line.new.err c.write_meaning.new.sink (refusal_for c.args.fault) c.code.result _ c.write_meaning.result c.code.ensures c.in_ok-write_fault_line.ensures c.write_meaning.ensures
