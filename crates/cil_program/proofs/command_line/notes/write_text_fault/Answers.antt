use Rattle.cil_program.proofs.Common.{◌++◌, at_place, for_memory, refl, subst, sym, true, Writes}
use Rattle.cil_program.proofs.MeaningLemmas.{writes-no_more}
use Rattle.cil_specs.specs.TextFault.{code_of}
use Rattle.cil_text.specs.Image.{place_of, kind_of, shown}
use Rattle.cil_program.specs.ByNames.{IsRefusalBy, hint_by}
use Rattle.cil_program.specs.Meanings.{refusal_text}
use Rattle.cil_program.specs.declared.command_line.foreign.NotProjected.TheVariants.{AtFault}
use Rattle.cil_program.proofs.command_line.notes.write_text_fault.Goals as goal

pub returns-in-Found : goal.returns-in-Found
returns-in-Found g c =
    let E = g.E.Sink in
    let found = c.in-Found in
    let name = c.module_name-name.result.now in
    let refusal = at_place (code_of (kind_of found.kind)) name (place_of found.at) (shown found.word) in (
      refusal,
      subst (λ f. IsRefusalBy (AtFault c.args.path f c.args.packed) refusal) (sym found.is) (name, c.module_name-name.ensures, refl),
      subst (λ f. Writes E.taken E.failures c.args.err.now c.write_found.new.err (refusal_text true refusal ++ hint_by (AtFault c.args.path f c.args.packed)) c.write_found.result) (sym found.is) c.write_found.ensures,
    )

pub returns-in-Memory : goal.returns-in-Memory
returns-in-Memory g c =
    let E = g.E.Sink in
    let written = writes-no_more E.taken E.failures c.args.err.now c.write_no_memory.new.sink (refusal_text true for_memory) c.write_no_memory.result c.write_no_memory.ensures in (
      for_memory,
      subst (λ f. IsRefusalBy (AtFault c.args.path f c.args.packed) for_memory) (sym c.in-Memory.is) refl,
      subst (λ f. Writes E.taken E.failures c.args.err.now c.write_no_memory.new.sink (refusal_text true for_memory ++ hint_by (AtFault c.args.path f c.args.packed)) c.write_no_memory.result) (sym c.in-Memory.is) written,
    )
