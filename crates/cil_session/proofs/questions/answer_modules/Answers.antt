use Rattle.cil_session.proofs.Common.{◌++◌, length, refl, a_line, modules_text, end_line, by_modules}
use Rattle.cil_session.proofs.SessionLemmas.{tries-told}
use Rattle.cil_session.proofs.questions.answer_modules.Goals as goal

pub returns : goal.returns
returns g c =
    let store = g.C.Compiled.store c.args.engine.now in
    tries-told (a_line (modules_text store ++ end_line (length store.entries))) _ (λ batch number. by_modules refl refl refl) (rw c.store.ensures at c.write_modules.ensures) c.and.ensures
