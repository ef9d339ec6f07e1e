use Rattle.cil_session.proofs.Common.{refl, arith, Standing}
use Rattle.cil_session.proofs.SessionLemmas.{comes-done, comes-failed}
use Rattle.cil_session.proofs.ScriptLemmas.{begun, at-start, turn-more, done-at-end, done-without-end, done-at-line, session-cut, fewer-left}
use Rattle.cil_session.proofs.session.answer_commands.Goals as goal

pub turns-init : goal.turns-init
turns-init g c =
    let start : Standing = record { store = g.C.Compiled.store c.args.engine.now; taken = g.W.Sink.taken c.args.sink.now } in
    record { so_far = rw (c.requires.input, c.requires.batch) (at-start _ (begun start) refl refl); read_failures = omega arith; write_failures = omega arith }

pub returns-in_err-answer_next : goal.returns-in_err-answer_next
returns-in_err-answer_next g c =
    let start : Standing = record { store = g.C.Compiled.store c.args.engine.now; taken = g.W.Sink.taken c.args.sink.now } in
    let so = c.turns.invariant in
    comes-failed _ c.from_residual.ensures.1 (session-cut _ _ _ _ start _ _ _ refl so.so_far (g.met.S.Source.sound c.answer_next.new.source)) so.read_failures so.write_failures c.in_err-answer_next.ensures

pub returns-in-End : goal.returns-in-End
returns-in-End g c =
    let turn = rw c.in-End.is at c.in_ok-answer_next.ensures.ok in
    comes-done (done-at-end _ _ _ _ _ _ _ refl c.turns.invariant.so_far turn) (omega arith) (omega arith)

pub returns-then-last : goal.returns-then-last
returns-then-last g c =
    let turn = rw (c.in-Answered.is, c.if-last.true) at c.in_ok-answer_next.ensures.ok in
    rw c.after-status.ensures (comes-done (done-without-end _ _ _ _ _ _ _ c.in-Answered.refused refl c.turns.invariant.so_far turn) (omega arith) (omega arith))

pub returns-in-NoCommand : goal.returns-in-NoCommand
returns-in-NoCommand g c =
    let turn = rw c.in-NoCommand.is at c.in_ok-answer_next.ensures.ok in
    rw c.line_feeds-before.ensures (comes-done (done-at-line _ _ _ _ _ _ _ refl refl c.turns.invariant.so_far turn) (omega arith) (omega arith))

pub turns-preserved : goal.turns-preserved
turns-preserved g c =
    let turn = rw (c.in-Answered.is, c.if-last.false) at c.in_ok-answer_next.ensures.ok in
    record {
      so_far = rw c.after-status.ensures (turn-more _ _ _ _ _ _ _ c.in-Answered.refused c.turns.invariant.so_far turn);
      read_failures = omega arith;
      write_failures = omega arith;
    }

pub turns-smaller : goal.turns-smaller
turns-smaller g c =
    let turn = rw (c.in-Answered.is, c.if-last.false) at c.in_ok-answer_next.ensures.ok in
    fewer-left _ _ c.in-Answered.refused _ _ c.turns.invariant.so_far.reads.fits turn
