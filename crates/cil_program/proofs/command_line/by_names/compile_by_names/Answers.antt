use Rattle.cil_program.proofs.Common.{◌≡◌, None, [], All, Ok, arith, gains-none, map, refl, subst, sym, true, AnswersByNames, Compiles, IsReadOf, Writes, answers, are_compiled, conditionals_in, note_line, owned_entry}
use Rattle.cil_program.proofs.BothLemmas.{both-after, both-failed}
use Rattle.cil_program.proofs.ByNamesLemmas.{read-texts}
use Rattle.cil_program.specs.ByNames.{AreEntriesFor, AreProjected}
use Rattle.cil_program.specs.Wanted.{compiled}
use Rattle.cil_program.proofs.command_line.by_names.compile_by_names.Goals as goal

pub returns-in_err-entries : goal.returns-in_err-entries
returns-in_err-entries g c =
    let content = g.F.TextFiles.content c.args.from.now in
    let conditionals = conditionals_in c.args.request.conditionals.now in
    let read = subst (All (λ f. IsReadOf (content f.path.now) f.text.items)) (sym c.as_slice.ensures.value) c.requires in
    let noted = c.in_err-entries.ensures in
    let made = noted.cut content c.args.report read in
    both-failed made.0 made.1 c.from_residual.result c.from_residual.ensures.0 made.2 noted.failed noted.counted
    (subst (λ l. AnswersByNames content (map (λ f. f.path.now) l) conditionals (compiled c.args.report) [] made.0 made.1) c.as_slice.ensures.value made.3)

pub returns-in_default : goal.returns-in_default
returns-in_default g c =
    let content = g.F.TextFiles.content c.args.from.now in
    let conditionals = conditionals_in c.args.request.conditionals.now in
    let read = subst (All (λ f. IsReadOf (content f.path.now) f.text.items)) (sym c.as_slice.ensures.value) c.requires in
    let found = c.in_ok-entries.field-0 in
    let none : found ≡ None = c.in_default.is in
    let noted = rw none at c.in_ok-entries.ensures.none in
    let made = noted content c.args.report read in record {
      ok = (
        [],
        made.0,
        gains-none (g.W.Sink.taken c.args.out.now),
        made.1,
        subst (λ l. AnswersByNames content (map (λ f. f.path.now) l) conditionals (compiled c.args.report) [] made.0 1) c.as_slice.ensures.value made.2,
      );
      cut = tt;
      failed = tt;
      out_counted = omega arith;
      err_counted = c.noted_entries.ensures.counted;
    }

pub returns : goal.returns
returns g c =
    let content = g.F.TextFiles.content c.args.from.now in
    let conditionals = conditionals_in c.args.request.conditionals.now in
    let files = c.args.files.items in
    let entries = map owned_entry c.in-Some.entries.items in
    let (projected, counts, are_projected, are, gains) = rw c.in-Some.is at c.in_ok-entries.ensures.some in
    let noted : Writes g.E.Sink.taken g.E.Sink.failures c.args.err.now c.noted_entries.new.err (note_line counts) (Ok tt) = record { ok = gains; err = tt; failed = tt; counted = c.noted_entries.ensures.counted } in
    let of_files = subst (λ l. AreProjected conditionals (map (λ f. f.text.items) l) projected counts) c.as_slice.ensures.value are_projected in
    let entries_are = subst (λ l. AreEntriesFor (map (λ f. f.path.now) l) projected entries) c.as_slice.ensures.value are in
    both-after {P = Compiles true entries c.args.report} c.compile_entries.result noted
    (λ printed told status made. answers (map (λ f. f.text.items) files) projected counts (read-texts content (λ f. f.path.now) (λ f. f.text.items) files c.requires) of_files
    (are_compiled c.args.report entries told refl entries_are made refl))
    c.compile_entries.ensures
