use Rattle.std.proofs.Common.{◌+◌}
use Rattle.cil_session.proofs.SessionLemmas.{tries-weaker}
use Rattle.cil_session.proofs.session.answer_command.Goals as goal

pub returns-in-Edit : goal.returns-in-Edit
returns-in-Edit g c =
    let W = g.W.Sink in
    rw c.in-Edit.is (tries-weaker W.taken W.failures c.args.sink.now c.answer_edit.new.sink _ _ c.answer_edit.result (λ answer does. does (1 + c.args.line_feeds)) c.answer_edit.ensures)

pub returns-in-Begin : goal.returns-in-Begin
returns-in-Begin g c = rw c.in-Begin.is (c.answer_begin.ensures (g.C.Compiled.store c.args.engine.now))

pub returns-in-Commit : goal.returns-in-Commit
returns-in-Commit g c =
    let W = g.W.Sink in
    rw c.in-Commit.is (tries-weaker W.taken W.failures c.args.sink.now c.answer_commit.new.sink _ _ c.answer_commit.result (λ answer does. does (1 + c.args.line_feeds)) c.answer_commit.ensures)

pub returns-in-Abort : goal.returns-in-Abort
returns-in-Abort g c =
    let W = g.W.Sink in
    rw c.in-Abort.is
    (tries-weaker W.taken W.failures c.args.sink.now c.answer_abort.new.sink _ _ c.answer_abort.result (λ answer does. does (1 + c.args.line_feeds)) (c.answer_abort.ensures (g.C.Compiled.store c.args.engine.now)))

pub returns-in-Ask : goal.returns-in-Ask
returns-in-Ask g c =
    let W = g.W.Sink in
    rw c.in-Ask.is (tries-weaker W.taken W.failures c.args.sink.now c.answer_question.new.sink _ _ c.answer_question.result (λ answer is. is c.args.batch.now (1 + c.args.line_feeds)) c.answer_question.ensures)
