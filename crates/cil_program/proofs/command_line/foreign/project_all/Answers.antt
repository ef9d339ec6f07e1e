use Rattle.std.proofs.Common.{◌∙◌, ◌++◌, ◌∷◌, [], map, take, ap, sym, subst}
use Rattle.std.proofs.lemmas.List.{map-append, take_more}
use Rattle.cil_projection.specs.Conditions.{settings_of}
use Rattle.cil_projection.specs.Statements.{Tallies}
use Rattle.cil_projection.specs.declared.projecting.TheConstants.{DECLARATIONS}
use Rattle.cil_program.specs.ByNames.{AreProjections, InTurn}
use Rattle.cil_program.proofs.ByNamesLemmas.{behind, behind-some, in_turn-more, projections-more}
use Rattle.cil_program.proofs.command_line.foreign.project_all.Goals as goal

pub loop-file-preserved : goal.loop-file-preserved
loop-file-preserved c =
    let files = c.args.files.now in
    let i = c.loop-file.file-index in
    let done = take i files in
    let file = c.file-item.result in
    let projected = c.loop-file.projected.items in
    let settings = settings_of c.args.booleans.now in
    let text = c.in_ok-text.text.items in
    let made = c.in_ok-text.ensures.ok in
    let taken = ap (λ f. done ++ f ∷ []) c.file-item.is ∙ sym (take_more files i _ c.loop-file-test.true) in
    let texts = sym (map-append (λ f. f.text.items) done (file ∷ [])) ∙ ap (map (λ f. f.text.items)) taken in
    let others = sym (map-append (λ f. f.text.items) projected _) ∙ ap (map (λ f. f.text.items)) (sym c.in_ok-push.ensures.items) in
    let front = map (λ f. f.text.items) done in
    let more = projections-more settings DECLARATIONS.now front (map (λ f. f.text.items) projected) file.text.items text c.loop-file.invariant.1
    (made.0, made.1, made.2 ∙ ap (λ b. made.0 ++ b) c.loop-file.invariant.3) in (
      ap (map (λ f. f.path.now)) c.in_ok-push.ensures.items ∙ map-append (λ f. f.path.now) projected _ ∙ ap (λ l. l ++ file.path.now ∷ []) c.loop-file.invariant.0
          ∙ sym (map-append (λ f. f.path.now) done (file ∷ [])) ∙ ap (map (λ f. f.path.now)) taken,
      subst (λ l. AreProjections settings DECLARATIONS.now l (map (λ f. f.text.items) c.push.new.self.items)) texts
          (subst (λ l. AreProjections settings DECLARATIONS.now (front ++ file.text.items ∷ []) l) others more),
      subst (λ l. InTurn (Tallies settings) l c.args.tally.now c.project_file.new.tally) texts
          (in_turn-more (Tallies settings) front file.text.items c.args.tally.now c.loop-file.tally c.project_file.new.tally c.loop-file.invariant.2 c.in_ok-text.ensures.counted),
      sym (behind-some front file.text.items DECLARATIONS.now) ∙ ap (λ l. behind l DECLARATIONS.now) texts,
    )
