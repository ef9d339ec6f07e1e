use Rattle.cil_program.proofs.Common.{◌++◌, by_store, for_memory, refl, subst, sym, true, Writes}
use Rattle.cil_program.proofs.MeaningLemmas.{writes-no_more}
use Rattle.cil_program.specs.ByNames.{IsRefusalBy, hint_by}
use Rattle.cil_program.specs.Meanings.{refusal_text}
use Rattle.cil_program.proofs.command_line.notes.write_not_projected.Goals as goal

pub returns-in-TooLong : goal.returns-in-TooLong
returns-in-TooLong g c =
    let E = g.E.Sink in
    let told = c.write_too_long.ensures in
    let refusal = by_store 34 told.0 in
    let written = writes-no_more E.taken E.failures c.args.err.now c.write_too_long.new.err (refusal_text true refusal) c.write_too_long.result told.2 in (
      refusal,
      subst (λ w. IsRefusalBy w refusal) (sym c.in-TooLong.is) (told.0, told.1, refl),
      subst (λ w. Writes E.taken E.failures c.args.err.now c.write_too_long.new.err (refusal_text true refusal ++ hint_by w) c.write_too_long.result) (sym c.in-TooLong.is) written,
    )

pub returns-in-Memory : goal.returns-in-Memory
returns-in-Memory g c =
    let E = g.E.Sink in
    let written = writes-no_more E.taken E.failures c.args.err.now c.write_no_memory.new.sink (refusal_text true for_memory) c.write_no_memory.result c.write_no_memory.ensures in (
      for_memory,
      subst (λ w. IsRefusalBy w for_memory) (sym c.in-Memory.is) refl,
      subst (λ w. Writes E.taken E.failures c.args.err.now c.write_no_memory.new.sink (refusal_text true for_memory ++ hint_by w) c.write_no_memory.result) (sym c.in-Memory.is) written,
    )
