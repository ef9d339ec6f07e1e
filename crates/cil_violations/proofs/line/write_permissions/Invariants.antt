use Rattle.cil_violations.proofs.Common.{◌≤◌, take, flat_map, Gains, shared_text}
use Rattle.cil_violations.proofs.line.write_permissions.Given as goal

abbrev pub invariant-loop-permission : goal.invariant-loop-permission
invariant-loop-permission g l = record {
  counted : g.W.Sink.failures l.fn.sink ≤ g.W.Sink.failures l.sink;
  so_far : Gains (g.W.Sink.taken l.fn.sink) (g.W.Sink.taken l.sink) (flat_map (shared_text l.resolved l.allowed) (take l.permission-index l.never));
}
