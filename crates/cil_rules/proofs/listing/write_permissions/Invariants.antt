use Rattle.cil_rules.proofs.Common.{◌≤◌, take, flat_map, Gains, chunk_text}
use Rattle.cil_rules.proofs.listing.write_permissions.Given as goal

abbrev pub invariant-loop-chunk : goal.invariant-loop-chunk
invariant-loop-chunk g l = record {
  counted : g.W.Sink.failures l.fn.sink ≤ g.W.Sink.failures l.sink;
  so_far : Gains (g.W.Sink.taken l.fn.sink) (g.W.Sink.taken l.sink) (flat_map (chunk_text l.names l.bit) (take l.chunk-index l.chunks));
}
