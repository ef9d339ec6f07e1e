use Rattle.cil_program.proofs.Common.{[], All, append-nil, map, refl, subst, arith, AllZip, IfOk-weaker, Ok, are_not_held, are_stored, note_line, one_unwritable}
use Rattle.std.specs.Prelude.{Contains}
use Rattle.std.specs.Path.{path_buf_bytes}
use Rattle.cil_program.specs.Targets.{IsPathIn, IsStored, IsTarget}
use Rattle.cil_program.proofs.BothLemmas.{and-status, both-after, both-cut, both-told}
use Rattle.cil_program.proofs.ZipLemmas.{all_zip-first, all_zip-found}
use Rattle.cil_program.proofs.command_line.by_names.store_projected.Goals as goal

pub returns-in_default-clause-told : goal.returns-in_default-clause-told
returns-in_default-clause-told g c = both-told 1 _ c.write_no_memory.ensures c.and.ensures (are_not_held refl refl refl)

pub returns-in_err-write_note-clause-told : goal.returns-in_err-write_note-clause-told
returns-in_err-write_note-clause-told g c =
    both-cut [] [] 0 c.from_residual.result c.from_residual.ensures.0 c.in_err-write_note.ensures (are_stored c.args.folder.now refl refl (append-nil (note_line c.args.projected.now.tally)) refl)

pub returns-in-Ok-write_targets-clause-told : goal.returns-in-Ok-write_targets-clause-told
returns-in-Ok-write_targets-clause-told g c = both-told 0 (Ok _) c.in_ok-write_note.ensures refl (are_stored c.args.folder.now refl refl refl refl)

pub returns-clause-told : goal.returns-clause-told
returns-clause-told g c =
    let files = c.args.projected.now.files.items in
    let folder = c.args.folder.now in
    let targets = c.in-Ok.targets.items in
    let all = subst (λ l. AllZip (λ file target. IsTarget folder file.path.now file.text.items target) l targets) c.as_slice.ensures.value c.in-Ok.ensures in
    let path = c.in-Err.field-0.path.now in
    let reason = c.in-Err.field-0.reason in
    let named = subst (λ l. Contains (map (λ target. path_buf_bytes target.path) l) path) c.as_slice-2.ensures.value c.in-Err.ensures.err in
    let found = all_zip-found (λ file target. IsTarget folder file.path.now file.text.items target) (λ file. file.path.now) (λ target. path_buf_bytes target.path) files targets path all named in
    both-after c.and-in-Err.result c.in_ok-write_note.ensures (λ printed told status made. made)
    (both-told 3 _ c.explain.ensures c.and-in-Err.ensures (one_unwritable folder found.0.path.now path reason refl found.2 (subst (IsPathIn folder found.0.path.now) found.4 found.3.0) refl refl refl))

pub returns-in_default-clause-stored : goal.returns-in_default-clause-stored
returns-in_default-clause-stored g c = IfOk-weaker c.and.result _ _ (λ status is none. absurd (omega (arith, is, none))) (and-status c.write_no_memory.result c.and.result 1 c.and.ensures)

pub returns-in-Ok-write_targets-clause-stored : goal.returns-in-Ok-write_targets-clause-stored
returns-in-Ok-write_targets-clause-stored g c = λ none.
    let written = g.F.TextFiles.written c.args.to.now in
    let folder = c.args.folder.now in
    let files = c.args.projected.now.files.items in
    let targets = c.in-Ok.targets.items in
    let all = subst (λ l. AllZip (λ file target. IsTarget folder file.path.now file.text.items target) l targets) c.as_slice.ensures.value c.in-Ok.ensures in
    let done = subst (All (λ target. written (path_buf_bytes target.path) target.text.now)) c.as_slice-2.ensures.value c.in-Ok-write_targets.ensures.ok in
    all_zip-first (λ file target. IsTarget folder file.path.now file.text.items target) (λ file. IsStored written folder file.path.now file.text.items) (λ target. written (path_buf_bytes target.path) target.text.now) files targets
    (λ file target is to. (path_buf_bytes target.path, is.0, subst (written (path_buf_bytes target.path)) is.1 to)) all done

pub returns-clause-stored : goal.returns-clause-stored
returns-clause-stored g c = IfOk-weaker c.and-in-Err.result _ _ (λ status is none. absurd (omega (arith, is, none))) (and-status c.explain.result c.and-in-Err.result 3 c.and-in-Err.ensures)
