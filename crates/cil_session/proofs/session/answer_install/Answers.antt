use Rattle.cil_session.proofs.Common.{◌≡◌, ◌∙◌, ◌++◌, ap, subst, length, length-take, take, arith, take_all, HasRead}
use Rattle.cil_session.proofs.AnswerLemmas.{aside-answered}
use Rattle.cil_session.proofs.SessionLemmas.{comes-install, tries-weaker}
use Rattle.cil_session.proofs.session.answer_install.Goals as goal

pub returns-in-Err : goal.returns-in-Err
returns-in-Err g c =
    let was = c.in_ok-skip_text-in-Err.ensures.read in
    let whole = rw c.if-not-branch.false at was.3 in
    comes-install was.1 _ (subst (HasRead _ _ _ _) whole.0 was.2) whole.1 c.in_ok-skip_text-in-Err.ensures.failures
    (tries-weaker _ _ _ _ _ _ _ (λ answer told. aside-answered _ _ _ _ _ c.args.line.len c.in-Err.why was.1 answer c.in-Err.ensures.err whole.1 c.answer_aside.ensures.batch told) c.answer_aside.ensures.told) c.told.ensures

pub take_install-requires : goal.take_install-requires
take_install-requires g c =
    let was = c.in_ok-read_front.ensures.read in
    let text : c.read_front.new.text.items ≡ take 16777217 was.1 = was.4 c.if-not-branch-2.false ∙ ap (λ l. l ++ take 16777217 was.1) c.in-Ok.ensures.empty in
    omega (arith, ap length text, length-take 16777217 was.1)

pub returns : goal.returns
returns g c =
    let was = c.in_ok-read_front.ensures.read in
    let whole = rw c.if-not-branch-2.false at was.3 in
    let text : c.read_front.new.text.items ≡ take 16777217 was.1 = was.4 c.if-not-branch-2.false ∙ ap (λ l. l ++ take 16777217 was.1) c.in-Ok.ensures.empty in
    comes-install was.1 _ (subst (HasRead _ _ _ _) whole.0 was.2) whole.1 c.in_ok-read_front.ensures.failures
    (c.take_install.ensures was.1 text (λ none. text ∙ take_all 16777217 was.1 (omega (arith, whole.1, c.in-Ok.ensures.whole none)))) c.told-2.ensures
