use Rattle.cil_program.proofs.Common.{◌∙◌, ◌++◌, ℕ, List, [], flat_map, map, ap, refl, sym, subst, for_memory, refusal_text, true, AnswersByNames, conditionals_in, lists_none, none_held, wanted_in}
use Rattle.std.specs.String.{string_bytes}
use Rattle.cil_program.specs.Given.{AnswersGiven, AreSameNamed, StandFor, same_name_line}
use Rattle.cil_program.proofs.BothLemmas.{both-after, both-cut, both-told}
use Rattle.cil_program.proofs.GivenLemmas.{answers-given}
use Rattle.cil_program.proofs.command_line.by_names.answer_given.Given as given
use Rattle.cil_program.proofs.command_line.by_names.answer_given.Goals as goal
use Rattle.cil_program.proofs.command_line.by_names.answer_given.Goals.{After-write_same_names}

pub returns-in_default : goal.returns-in_default
returns-in_default g c = both-told 1 _ c.write_no_memory.ensures c.and.ensures (lists_none refl refl refl)

pub returns-in_default-texts_of : goal.returns-in_default-texts_of
returns-in_default-texts_of g c = both-told 1 _ c.write_no_memory-in_default-texts_of.ensures c.and-in_default-texts_of.ensures (lists_none refl refl refl)

pub returns-in_default-same_named : goal.returns-in_default-same_named
returns-in_default-same_named g c = both-told 1 _ c.write_no_memory-in_default-same_named.ensures c.and-in_default-same_named.ensures (lists_none refl refl refl)

-- what is of the files that the given paths stand for is of the given paths
of-given : (g : given.Over) (c : After-write_same_names g) (printed told : List ℕ) (status : ℕ)
    → AnswersByNames (g.F.TextFiles.content c.args.from.now) (map (λ path. path.now) c.as_slice-2.result.now) (conditionals_in c.args.given.conditionals.now) (wanted_in c.args.given.wanted) printed told status
    → AnswersGiven (g.F.TextFiles.content c.args.from.now) (map (λ path. path.now) c.args.given.paths.now) (conditionals_in c.args.given.conditionals.now) (wanted_in c.args.given.wanted) printed
    (flat_map (λ path. same_name_line path.now) c.as_slice-3.result.now ++ told) status
of-given g c printed told status =
    let content = g.F.TextFiles.content c.args.from.now in
    let asked = map (λ path. path.now) c.args.given.paths.now in
    let paths = c.as_slice-2.result.now in
    let files_are = ap (map (λ path. path.now)) c.as_slice-2.ensures.value ∙ c.in-Ok-texts_of.ensures ∙ ap (map string_bytes) c.as_slice.ensures.value in
    let stand = subst (StandFor content asked) (sym files_are) c.in-Ok.ensures in
    let found = subst (λ l. AreSameNamed (map (λ path. path.now) paths) (map (λ path. path.now) l)) (sym c.as_slice-3.ensures.value) c.in-Ok-same_named.ensures in
    answers-given (λ path. path.now) content asked paths c.as_slice-3.result.now (conditionals_in c.args.given.conditionals.now) (wanted_in c.args.given.wanted) printed told status stand found

pub returns-in_err-write_same_names : goal.returns-in_err-write_same_names
returns-in_err-write_same_names g c =
    both-cut [] (refusal_text true for_memory) 1 c.from_residual.result c.from_residual.ensures.0 c.in_err-write_same_names.ensures
    (of-given g (goal.at.returns-in_err-write_same_names g c).After-write_same_names [] (refusal_text true for_memory) 1 (none_held refl refl refl))

pub returns : goal.returns
returns g c =
    let slices = ap (map (λ path. path.now)) (c.as_slice-4.ensures.value ∙ sym c.as_slice-2.ensures.value) in
    both-after c.answer_by_names.result c.in_ok-write_same_names.ensures
    (λ printed told status made. of-given g (goal.at.returns g c).After-write_same_names printed told status
    (subst (λ l. AnswersByNames (g.F.TextFiles.content c.args.from.now) l (conditionals_in c.args.given.conditionals.now) (wanted_in c.args.given.wanted) printed told status) slices made))
    c.answer_by_names.ensures
