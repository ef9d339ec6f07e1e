use Rattle.std.proofs.Common.{◌∙◌, ◌++◌, ◌∷◌, [], map, take, ap, sym, subst}
use Rattle.std.proofs.lemmas.List.{map-append, take_more}
use Rattle.cil_projection.specs.Conditions.{Collects}
use Rattle.cil_program.specs.ByNames.{InTurn}
use Rattle.cil_program.proofs.ByNamesLemmas.{in_turn-more}
use Rattle.cil_program.proofs.command_line.foreign.collect_all.Goals as goal

pub loop-file-preserved : goal.loop-file-preserved
loop-file-preserved c =
    let files = c.args.files.now in
    let i = c.loop-file.file-index in
    let taken = ap (λ file. take i files ++ file ∷ []) c.file-item.is ∙ sym (take_more files i _ c.loop-file-test.true) in
    let longer = sym (map-append (λ f. f.text.items) (take i files) (c.file-item.result ∷ [])) ∙ ap (map (λ f. f.text.items)) taken in
    subst (λ s. InTurn Collects s c.args.booleans.now c.collect_file.new.booleans) longer
    (in_turn-more Collects (map (λ f. f.text.items) (take i files)) c.file-item.result.text.items c.args.booleans.now c.loop-file.booleans c.collect_file.new.booleans c.loop-file.invariant c.in_ok-collect_file.ensures.ok)
