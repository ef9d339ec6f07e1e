use Rattle.cil_session.proofs.Common.{◌≤◌, take, flat_map, Gains, dropped_line}
use Rattle.cil_session.proofs.reply.write_optionals.Given as goal

abbrev pub invariant-loop-i : goal.invariant-loop-i
invariant-loop-i g l = record {
  counted : g.W.Sink.failures l.fn.sink ≤ g.W.Sink.failures l.sink;
  so_far : Gains (g.W.Sink.taken l.fn.sink) (g.W.Sink.taken l.sink) (flat_map dropped_line (take l.i l.dropped));
}
