use Rattle.cil_program.proofs.Common.{for_memory, refl, subst, sym, Writes}
use Rattle.cil_program.proofs.MeaningLemmas.{writes-explained, writes-its_front}
use Rattle.cil_program.specs.Meanings.{refusal_text}
use Rattle.cil_program.proofs.command_line.meanings.write_no_memory.Goals as goal

pub returns-in_err-write_no_memory : goal.returns-in_err-write_no_memory
returns-in_err-write_no_memory g c =
    writes-its_front g.W.Sink.taken g.W.Sink.failures c.args.sink.now c.write_no_memory.new.sink c.args.explained for_memory _ c.from_residual.result c.from_residual.ensures.0 c.in_err-write_no_memory.ensures

pub returns-then-explained : goal.returns-then-explained
returns-then-explained g c =
    let W = g.W.Sink in
    subst (λ explained. Writes W.taken W.failures c.args.sink.now c.write_meaning.new.sink (refusal_text explained for_memory) c.write_meaning.result) (sym c.if-explained.true)
    (writes-explained W.taken W.failures c.args.sink.now c.write_no_memory.new.sink c.write_meaning.new.sink for_memory 60 _ c.write_meaning.result refl c.in_ok-write_no_memory.ensures c.write_meaning.ensures)
