use Rattle.cil_session.proofs.Common.{◌≤◌, take, flat_map, Gains, module_line}
use Rattle.cil_session.proofs.reply.write_entries.Given as goal

abbrev pub invariant-loop-i : goal.invariant-loop-i
invariant-loop-i g l = record {
  counted : g.W.Sink.failures l.fn.sink ≤ g.W.Sink.failures l.sink;
  so_far : Gains (g.W.Sink.taken l.fn.sink) (g.W.Sink.taken l.sink) (flat_map (module_line l.store) (take l.i l.store.entries));
}
