use Rattle.cil_session.proofs.Common.{◌++◌, length, refl, a_line, dump_commands, dump_text, end_line, by_dump}
use Rattle.cil_session.proofs.SessionLemmas.{tries-told}
use Rattle.cil_session.proofs.questions.answer_dump.Goals as goal

pub returns : goal.returns
returns g c =
    let store = g.C.Compiled.store c.args.engine.now in
    tries-told (a_line (dump_text store ++ end_line (length (dump_commands store)))) _ (λ batch number. by_dump refl refl refl) (rw c.store.ensures at c.write_dump.ensures) c.and.ensures
