use Rattle.cil_program.proofs.Common.{◌++◌, None, map, refl, subst, true, answers, are_compiled, conditionals_in, for_memory, front-longer, hint_by, lacks_memory, none_held, note_line, owned_entry, refusal_text}
use Rattle.cil_program.proofs.BothLemmas.{and-err, and-ok, err-anyway}
use Rattle.cil_program.proofs.ByNamesLemmas.{entries-for, read-texts, refused-by}
use Rattle.cil_program.specs.ByNames.{AreEntriesFor}
use Rattle.cil_program.specs.Wanted.{compiled}
use Rattle.cil_program.proofs.command_line.by_names.noted_entries.Goals as goal

pub returns-in-Err-clause-some : goal.returns-in-Err-clause-some
returns-in-Err-clause-some g c = and-ok _ None c.write_not_projected.result c.and.result c.and.ensures c.write_not_projected.ensures.2.ok (λ gains. tt)

pub returns-in-Err-clause-none : goal.returns-in-Err-clause-none
returns-in-Err-clause-none g c =
    let told = c.write_not_projected.ensures in
    let conditionals = conditionals_in c.args.request.conditionals.now in
    and-ok _ None c.write_not_projected.result c.and.result c.and.ensures told.2.ok
    (λ gains content report read. (
      refusal_text true told.0 ++ hint_by c.in-Err.why,
      gains,
      refused-by content (λ f. f.path.now) (λ f. f.text.items) c.args.files.now conditionals (compiled report) c.in-Err.why told.0 read c.in-Err.ensures.err told.1,
    ))

pub returns-in-Err-clause-cut : goal.returns-in-Err-clause-cut
returns-in-Err-clause-cut g c =
    let told = c.write_not_projected.ensures in
    let conditionals = conditionals_in c.args.request.conditionals.now in
    and-err None c.write_not_projected.result c.and.result c.and.ensures told.2.err
    (λ front content report read. (
      refusal_text true told.0 ++ hint_by c.in-Err.why,
      1,
      front,
      refused-by content (λ f. f.path.now) (λ f. f.text.items) c.args.files.now conditionals (compiled report) c.in-Err.why told.0 read c.in-Err.ensures.err told.1,
    ))

pub returns-in-Err-clause-failed : goal.returns-in-Err-clause-failed
returns-in-Err-clause-failed g c = and-err None c.write_not_projected.result c.and.result c.and.ensures c.write_not_projected.ensures.2.failed (λ failed. failed)

pub returns-in-Err-clause-counted : goal.returns-in-Err-clause-counted
returns-in-Err-clause-counted g c = c.write_not_projected.ensures.2.counted

pub returns-in_default-clause-some : goal.returns-in_default-clause-some
returns-in_default-clause-some g c = and-ok _ None c.write_no_memory.result c.and-in_default.result c.and-in_default.ensures c.write_no_memory.ensures.ok (λ gains. tt)

pub returns-in_default-clause-none : goal.returns-in_default-clause-none
returns-in_default-clause-none g c =
    and-ok _ None c.write_no_memory.result c.and-in_default.result c.and-in_default.ensures c.write_no_memory.ensures.ok (λ gains content report read. (refusal_text true for_memory, gains, none_held refl refl refl))

pub returns-in_default-clause-cut : goal.returns-in_default-clause-cut
returns-in_default-clause-cut g c =
    and-err None c.write_no_memory.result c.and-in_default.result c.and-in_default.ensures c.write_no_memory.ensures.err (λ front content report read. (refusal_text true for_memory, 1, front, none_held refl refl refl))

pub returns-in_default-clause-failed : goal.returns-in_default-clause-failed
returns-in_default-clause-failed g c = and-err None c.write_no_memory.result c.and-in_default.result c.and-in_default.ensures c.write_no_memory.ensures.failed (λ failed. failed)

pub returns-in_err-write_note-clause-cut : goal.returns-in_err-write_note-clause-cut
returns-in_err-write_note-clause-cut g c =
    let taken = g.E.Sink.taken in
    let files = c.args.files.now in
    let p = c.in-Ok.projected in
    let texts = map (λ f. f.text.items) files in
    let others = map (λ f. f.text.items) p.files.items in
    let written = c.in-Ok-entries_of.entries.items in
    let entries = map owned_entry written in
    let are = subst (λ ps. AreEntriesFor ps others entries) c.in-Ok.ensures.paths (entries-for (λ f. f.path.now) (λ f. f.text.items) owned_entry p.files.items written c.in-Ok-entries_of.ensures) in
    let no_memory = refusal_text true for_memory in
    err-anyway c.from_residual.result
    (λ content report read. (
      note_line p.tally ++ no_memory,
      1,
      front-longer (taken c.args.err.now) (taken c.write_note.new.err) (note_line p.tally) no_memory c.in_err-write_note.ensures.err,
      answers texts others p.tally (read-texts content (λ f. f.path.now) (λ f. f.text.items) files read) c.in-Ok.ensures.ok
          (are_compiled report entries no_memory refl are (lacks_memory refl refl refl) refl),
    ))

pub returns-in_err-write_note-clause-failed : goal.returns-in_err-write_note-clause-failed
returns-in_err-write_note-clause-failed g c = err-anyway c.from_residual.result c.in_err-write_note.ensures.failed

pub returns-clause-some : goal.returns-clause-some
returns-clause-some g c =
    let p = c.in-Ok.projected in
    let others = map (λ f. f.text.items) p.files.items in
    let written = c.in-Ok-entries_of.entries.items in
    let are = subst (λ ps. AreEntriesFor ps others (map owned_entry written)) c.in-Ok.ensures.paths
    (entries-for (λ f. f.path.now) (λ f. f.text.items) owned_entry p.files.items written c.in-Ok-entries_of.ensures) in
    (others, p.tally, c.in-Ok.ensures.ok, are, c.in_ok-write_note.ensures.ok)
