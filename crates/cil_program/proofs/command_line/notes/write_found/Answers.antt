use Rattle.cil_program.proofs.Common.{true}
use Rattle.cil_session.proofs.ReplyLemmas.{writes-both, writes-first}
use Rattle.cil_program.specs.ByNames.{refusal_for}
use Rattle.cil_program.specs.Meanings.{refusal_text}
use Rattle.cil_program.specs.Packed.{packed_text}
use Rattle.cil_program.proofs.command_line.notes.write_found.Goals as goal

pub returns-in_err-write_fault : goal.returns-in_err-write_fault
returns-in_err-write_fault g c =
    writes-first g.E.Sink.taken g.E.Sink.failures c.args.err.now c.write_fault.new.err (refusal_text true (refusal_for c.args.fault)) (packed_text c.args.packed) _ c.from_residual.result c.from_residual.ensures.0 c.in_err-write_fault.ensures

pub returns : goal.returns
returns g c =
    writes-both g.E.Sink.taken g.E.Sink.failures c.args.err.now c.write_fault.new.err c.write_packed.new.err (refusal_text true (refusal_for c.args.fault)) (packed_text c.args.packed) _ c.write_packed.result c.in_ok-write_fault.ensures c.write_packed.ensures
