use Rattle.std.proofs.Common.{List, ℕ}
use Rattle.std.specs.Borrow.{Bor}
use Rattle.cil_stream.proofs.Gaining.{on_err, gains-pieces_front}
use Rattle.cil_stream.proofs.sink.write_pieces.Goals as goal

pub returns-in_err-write_all-clause-err : goal.returns-in_err-write_all-clause-err
returns-in_err-write_all-clause-err g c =
    on_err c.from_residual.result
    (gains-pieces_front (λ (p : Bor (List ℕ)). p.now) (g.W.Sink.taken c.args.sink.now) (g.W.Sink.taken c.loop-piece.sink) (g.W.Sink.taken c.write_all.new.sink) c.args.pieces.now c.loop-piece.piece-index _
    c.loop-piece-test.true c.loop-piece.invariant.so_far c.in_err-write_all.ensures.err)
