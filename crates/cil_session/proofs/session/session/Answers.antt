use Rattle.cil_session.proofs.Common.{refl, Read, Write}
use Rattle.cil_session.proofs.SessionLemmas.{fault-is}
use Rattle.cil_session.proofs.ScriptLemmas.{leaves, cut-at-last, cut-in_last_line}
use Rattle.cil_session.proofs.session.session.Goals as goal

pub returns-clause-ok : goal.returns-clause-ok
returns-clause-ok g c =
    let done = c.in_ok-last.ensures.ok in
    let so = c.in_ok-status.ensures.ok in
    rw c.flush.ensures.same (leaves _ _ _ _ _ _ _ _ done.0 refl so.written (so.is done.0.answers done.0.status_is) (g.met.S.Source.sound c.answer_commands.new.source))

pub returns-in_err-last-clause-cut_by_read : goal.returns-in_err-last-clause-cut_by_read
returns-in_err-last-clause-cut_by_read g c = λ is. rw (fault-is _ _ Read c.from_residual.ensures.1 is) at c.in_err-last.ensures.err

pub returns-in_err-last-clause-cut_by_write : goal.returns-in_err-last-clause-cut_by_write
returns-in_err-last-clause-cut_by_write g c = λ is. rw (fault-is _ _ Write c.from_residual.ensures.1 is) at c.in_err-last.ensures.err

pub returns-in_err-status-clause-cut_by_write : goal.returns-in_err-status-clause-cut_by_write
returns-in_err-status-clause-cut_by_write g c = λ is.
    cut-in_last_line _ _ _ _ _ _ _ c.in_ok-last.ensures.ok.0 refl c.in_err-status.ensures.err (g.met.S.Source.sound c.answer_commands.new.source)

pub returns-in_err-flush-clause-cut_by_write : goal.returns-in_err-flush-clause-cut_by_write
returns-in_err-flush-clause-cut_by_write g c = λ is.
    let done = c.in_ok-last.ensures.ok in
    let so = c.in_ok-status.ensures.ok in
    rw c.flush.ensures.same (cut-at-last _ _ _ _ _ (leaves _ _ _ _ _ _ _ _ done.0 refl so.written (so.is done.0.answers done.0.status_is) (g.met.S.Source.sound c.answer_commands.new.source)))
