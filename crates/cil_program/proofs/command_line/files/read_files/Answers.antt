use Rattle.cil_program.proofs.Common.{◌∙◌, ◌∷◌, ◌++◌, [], map, take, ap, ap₂, sym, subst, map-append, take_more, IsReadOf}
use Rattle.std.proofs.lemmas.List.Elements.{All-push}
use Rattle.cil_program.proofs.command_line.files.read_files.Goals as goal

pub loop-path-preserved : goal.loop-path-preserved
loop-path-preserved g c =
    let paths = c.args.paths.now in
    let i = c.loop-path.path-index in
    let file = c.in_ok-read_file.field-0 in
    let content = g.F.TextFiles.content c.args.from.now in
    let named =
    ap (map (λ file. file.path.now)) c.in_ok-push.ensures.items ∙ map-append (λ file. file.path.now) c.loop-path.files.items (file ∷ [])
    ∙ ap₂ (λ a b. a ++ b) c.loop-path.invariant.0 (ap (λ p. p.now ∷ []) c.in_ok-read_file.ensures.ok) ∙ sym (map-append (λ path. path.now) (take i paths) _)
    ∙ ap (map (λ path. path.now)) (sym (take_more paths i _ c.loop-path-test.true)) in
    let read = subst (λ p. IsReadOf (content p.now) file.text.items) (sym c.in_ok-read_file.ensures.ok) c.in_ok-read_file.ensures.text in
    (named, rw c.in_ok-push.ensures.items (All-push (λ file. IsReadOf (content file.path.now) file.text.items) c.loop-path.files.items file c.loop-path.invariant.1 read))
