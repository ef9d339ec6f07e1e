use Rattle.cil_program.proofs.Common.{Bool, Err, inl, inr, List, [], map, refl, ap, arith, Entry, empty, gains-none, install_of, owned_entry, refusal_of, Compiles, is_refused, lacks_memory}
use Rattle.cil_program.specs.Meanings.{refusal_text}
use Rattle.cil_store_specs.specs.Next.{Refusal}
use Rattle.cil_store.specs.Refusing.{AreRefused}
use Rattle.cil_program.specs.declared.command_line.compile.Report.{Report}
use Rattle.cil_program.proofs.BothLemmas.{both-kept, both-told}
use Rattle.cil_program.proofs.CommandLineLemmas.{front-none}
use Rattle.cil_program.proofs.command_line.compile.compile_entries.Goals as goal

refusing : (explained : Bool) (entries : List Entry) (report : Report) (refusal : Refusal) → AreRefused empty (map install_of entries) refusal → Compiles explained entries report [] (refusal_text explained refusal) 1
refusing explained entries report refusal (inl memory) = lacks_memory refl (ap (refusal_text explained) memory) refl
refusing explained entries report refusal (inr of) = is_refused refusal of refl refl refl

pub returns-in-Err : goal.returns-in-Err
returns-in-Err g c =
    both-told 1 _ c.write_refusal.ensures c.and.ensures
    (refusing c.args.asked.explained (map owned_entry c.args.entries.items) c.args.asked.report (refusal_of c.in-Err.refusal) c.in-Err.ensures.err)

pub returns-in-Ok-write_report : goal.returns-in-Ok-write_report
returns-in-Ok-write_report g c =
    let (store, of, meant) = c.in-Ok.ensures.ok in
    let written = c.in-Ok-write_report.ensures.ok c.args.asked.explained (map owned_entry c.args.entries.items) store of meant in
    record { ok = (written.0, [], written.1, gains-none (g.E.Sink.taken c.args.err.now), written.2); cut = tt; failed = tt; out_counted = c.write_report.ensures.counted; err_counted = omega arith }

pub returns-in-Err-Memory : goal.returns-in-Err-Memory
returns-in-Err-Memory g c =
    both-kept c.and-in-Err-Memory.result (c.in-Err-Memory.ensures.memory (ap Err c.in-Err-Memory.field-0-is)) c.write_report.ensures.counted
    (both-told 1 _ c.write_no_memory.ensures c.and-in-Err-Memory.ensures (lacks_memory refl refl refl))

pub returns : goal.returns
returns g c =
    let (store, of, meant) = c.in-Ok.ensures.ok in
    let is = ap Err c.in-Err-Sink.field-0-is in
    let begun = c.in-Err-Sink.ensures.err c.args.asked.explained (map owned_entry c.args.entries.items) store of meant is in record {
      ok = tt;
      cut = (begun.0, [], begun.1, begun.2, front-none (g.E.Sink.taken c.args.err.now), begun.3);
      failed = inl (c.in-Err-Sink.ensures.failed is);
      out_counted = c.write_report.ensures.counted;
      err_counted = omega arith;
    }
