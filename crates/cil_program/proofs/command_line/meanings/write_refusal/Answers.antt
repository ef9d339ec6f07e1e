use Rattle.cil_program.proofs.Common.{refusal_of, subst, sym, Writes}
use Rattle.cil_program.proofs.MeaningLemmas.{writes-explained}
use Rattle.cil_program.specs.Meanings.{refusal_text}
use Rattle.cil_program.proofs.command_line.meanings.write_refusal.Goals as goal

pub returns-then-explained : goal.returns-then-explained
returns-then-explained g c =
    let W = g.W.Sink in
    let refusal = refusal_of c.args.refusal.now in
    subst (λ explained. Writes W.taken W.failures c.args.sink.now c.write_meaning.new.sink (refusal_text explained refusal) c.write_meaning.result) (sym c.if-explained.true)
    (writes-explained W.taken W.failures c.args.sink.now c.write_refusal.new.sink c.write_meaning.new.sink refusal c.code_of.result _ c.write_meaning.result c.code_of.ensures c.in_ok-write_refusal.ensures c.write_meaning.ensures)
