use Rattle.cil_session.proofs.Common.{◌≡◌, ◌∙◌, refl, ap, sym, subst, IsHeld, by_holding, edit_of, held_answer}
use Rattle.cil_store_specs.specs.Answers as answers
use Rattle.cil_session.proofs.AnswerLemmas.{same-name}
use Rattle.cil_session.proofs.SessionLemmas.{tries-weaker}
use Rattle.cil_session.proofs.edits.answer_edit.Goals as goal

pub returns : goal.returns
returns g c =
    let W = g.W.Sink in
    let store = g.C.Compiled.store c.args.engine.now in
    let edit = edit_of c.args.edit in
    let b = c.is_open.ensures.yes c.if-not-is_open.false in
    let held = c.hold-held.ensures b.0 b.1 in
    let name : c.name.result.now ≡ answers.name_of edit = c.name.ensures ∙ same-name c.args.edit in
    tries-weaker W.taken W.failures c.args.sink.now c.answer_held.new.sink _ _ c.answer_held.result
    (λ answer is number. by_holding edit b.0 held.0 refl b.1 (subst (λ a. IsHeld b.0.held edit a held.0) (sym (is ∙ ap (held_answer c.hold-held.result) name)) held.2) (ap (λ o. record { store = store; batch = o }) held.1))
    c.answer_held.ensures
