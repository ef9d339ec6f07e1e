use Rattle.std.proofs.Common.{◌∙◌, ◌∷◌, [], ◌++◌, ap, sym, subst, take}
use Rattle.std.proofs.lemmas.List.{take_more}
use Rattle.std.specs.List.{AllZip}
use Rattle.cil_program.specs.Targets.{IsTarget}
use Rattle.cil_program.proofs.ZipLemmas.{all_zip-more}
use Rattle.cil_program.proofs.command_line.targets.targets_of.Goals as goal

pub loop-file-preserved : goal.loop-file-preserved
loop-file-preserved c =
    let files = c.args.files.now in
    let i = c.loop-file.file-index in
    let taken = ap (λ file. take i files ++ file ∷ []) c.file-item.is ∙ sym (take_more files i _ c.loop-file-test.true) in
    rw c.in_ok-push.ensures.items (subst (λ l. AllZip (λ file target. IsTarget c.args.folder.now file.path.now file.text.items target) l (c.loop-file.targets.items ++ c.in_ok-target_of.field-0 ∷ [])) taken
    (all_zip-more (λ file target. IsTarget c.args.folder.now file.path.now file.text.items target) (take i files) c.loop-file.targets.items c.file-item.result c.in_ok-target_of.field-0 c.loop-file.invariant c.in_ok-target_of.ensures))
