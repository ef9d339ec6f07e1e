use Rattle.cil_session.proofs.Common.{ap, sym, install}
use Rattle.cil_session.proofs.AnswerLemmas.{held-answered}
use Rattle.cil_session.proofs.SessionLemmas.{tries-weaker}
use Rattle.cil_session.proofs.session.take_install.Goals as goal

pub returns-then-is_open : goal.returns-then-is_open
returns-then-is_open g c text is all =
    let line = c.args.line in
    let b = c.is_open.ensures.yes c.if-is_open.true in
    let edit = install line.name.now line.priority text in
    let held = c.hold_install-held.ensures edit (ap (install line.name.now line.priority) (sym is)) b.0 b.1 in
    tries-weaker _ _ _ _ _ _ _ (λ answer told. held-answered _ _ _ b.0 edit held.0 answer _ b.1 held.1 held.2 told) c.answer_held.ensures
