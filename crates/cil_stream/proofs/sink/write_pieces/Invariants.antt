use Rattle.std.proofs.Common.{◌≤◌, take}
use Rattle.std.specs.List.{flat_map}
use Rattle.cil_stream.specs.Device.{Gains}
use Rattle.cil_stream.proofs.sink.write_pieces.Given as goal

abbrev pub invariant-loop-piece : goal.invariant-loop-piece
invariant-loop-piece g l = record {
  counted : g.W.Sink.failures l.fn.sink ≤ g.W.Sink.failures l.sink;
  so_far : Gains (g.W.Sink.taken l.fn.sink) (g.W.Sink.taken l.sink) (flat_map (λ p. p.now) (take l.piece-index l.pieces));
}
