use Rattle.cil_program.proofs.Common.{◌∙◌, ◌++◌, [], All, map, ap, ap₂, refl, subst, sym, AllZip, refusal_text, hint_by, true, unreadable_text, AnswersByNames, AnswersProjected, IsReadOf, answers, conditionals_in, none_held, one_unreadable, wanted_in}
use Rattle.cil_specs.proofs.NamesLemmas.{contains-map}
use Rattle.cil_program.proofs.BothLemmas.{both-told, both-wider}
use Rattle.cil_program.proofs.ByNamesLemmas.{read-texts, refused-by}
use Rattle.cil_program.specs.declared.command_line.wanted.Wanted.TheVariants.{Compiled}
use Rattle.cil_program.proofs.command_line.by_names.answer_by_names.Goals as goal

pub returns-in-Err-Memory : goal.returns-in-Err-Memory
returns-in-Err-Memory g c = both-told 1 _ c.write_no_memory.ensures c.and.ensures (none_held refl refl refl)

pub returns-in-Err-Unreadable : goal.returns-in-Err-Unreadable
returns-in-Err-Unreadable g c =
    let found = c.in-Err-Unreadable in
    let unread = found.ensures.err found.path found.reason found.field-0-is in
    let given = contains-map (λ path. path.now) c.args.request.paths.now found.path unread.0 in
    both-told 3 _ c.explain.ensures c.and-in-Err-Unreadable.ensures (one_unreadable found.path.now found.reason given unread.1 refl (ap₂ (λ p r. unreadable_text p.now r) found.path-is found.reason-is) refl)

pub compile_by_names-requires : goal.compile_by_names-requires
compile_by_names-requires g c = c.in-Ok.ensures.texts

pub returns-in-Compiled : goal.returns-in-Compiled
returns-in-Compiled g c =
    let content = g.F.TextFiles.content c.args.from.now in
    let conditionals = conditionals_in c.args.request.conditionals.now in
    both-wider c.compile_by_names.result
    (λ printed told status made. subst (λ w. AnswersByNames content (map (λ path. path.now) c.args.request.paths.now) conditionals w printed told status) (sym (ap wanted_in c.in-Compiled.is))
    (subst (λ ps. AnswersByNames content ps conditionals (wanted_in (Compiled c.in-Compiled.report)) printed told status) c.in-Ok.ensures.ok made))
    c.compile_by_names.ensures

pub returns-in-Ok-projected : goal.returns-in-Ok-projected
returns-in-Ok-projected g c =
    let content = g.F.TextFiles.content c.args.from.now in
    let files = c.as_slice.result.now in
    let texts = map (λ f. f.text.items) files in
    let files_are = ap (map (λ f. f.path.now)) c.as_slice.ensures.value ∙ c.in-Ok.ensures.ok in
    let read = subst (All (λ f. IsReadOf (content f.path.now) f.text.items)) (sym c.as_slice.ensures.value) c.in-Ok.ensures.texts in
    let zipped = subst (λ ps. AllZip (λ p t. IsReadOf (content p) t) ps texts) files_are (read-texts content (λ f. f.path.now) (λ f. f.text.items) files read) in
    let p = c.in-Ok-projected.projected in
    let others = map (λ f. f.text.items) p.files.items in
    both-wider c.answer_projected.result
    (λ printed told status made. answers texts others p.tally zipped c.in-Ok-projected.ensures.ok
    (subst (λ ps. AnswersProjected ps others p.tally (wanted_in c.args.request.wanted) printed told status) (c.in-Ok-projected.ensures.paths ∙ files_are) made))
    c.answer_projected.ensures

pub returns : goal.returns
returns g c =
    let content = g.F.TextFiles.content c.args.from.now in
    let files = c.as_slice.result.now in
    let files_are = ap (map (λ f. f.path.now)) c.as_slice.ensures.value ∙ c.in-Ok.ensures.ok in
    let read = subst (All (λ f. IsReadOf (content f.path.now) f.text.items)) (sym c.as_slice.ensures.value) c.in-Ok.ensures.texts in
    let conditionals = conditionals_in c.args.request.conditionals.now in
    let wanted = wanted_in c.args.request.wanted in
    let why = c.in-Err.why in
    let told = c.write_not_projected.ensures in
    both-told 1 _ told.2 c.and-in-Err.ensures
    (subst (λ ps. AnswersByNames content ps conditionals wanted [] (refusal_text true told.0 ++ hint_by why) 1) files_are
    (refused-by content (λ f. f.path.now) (λ f. f.text.items) files conditionals wanted why told.0 read c.in-Err.ensures.err told.1))
