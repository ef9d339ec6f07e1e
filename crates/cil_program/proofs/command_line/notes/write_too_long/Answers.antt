use Rattle.cil_program.proofs.Common.{Err, Ok, by_store, refusal_line, subst, true, Writes}
use Rattle.cil_program.proofs.MeaningLemmas.{writes-explained, writes-its_front}
use Rattle.cil_program.proofs.command_line.notes.write_too_long.Goals as goal

pub returns-in_err-write_store_refusal : goal.returns-in_err-write_store_refusal
returns-in_err-write_store_refusal g c =
    let E = g.E.Sink in
    let name = c.module_name.result.now in
    let written = subst (λ code. Writes E.taken E.failures c.args.err.now c.write_store_refusal.new.sink (refusal_line (by_store code name)) (Err c.in_err-write_store_refusal.field-0.0)) c.code-code.ensures c.in_err-write_store_refusal.ensures in
    (name, c.module_name.ensures, writes-its_front E.taken E.failures c.args.err.now c.write_store_refusal.new.sink true (by_store 34 name) _ c.from_residual.result c.from_residual.ensures.0 written)

pub returns : goal.returns
returns g c =
    let E = g.E.Sink in
    let name = c.module_name.result.now in
    let written = subst (λ code. Writes E.taken E.failures c.args.err.now c.write_store_refusal.new.sink (refusal_line (by_store code name)) (Ok c.in_ok-write_store_refusal.field-0)) c.code-code.ensures c.in_ok-write_store_refusal.ensures in
    (name, c.module_name.ensures, writes-explained E.taken E.failures c.args.err.now c.write_store_refusal.new.sink c.write_meaning.new.sink (by_store 34 name) c.code-code.result _ c.write_meaning.result c.code-code.ensures written c.write_meaning.ensures)
