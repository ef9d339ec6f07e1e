use Rattle.cil_session.proofs.Common.{◌≤◌, take, flat_map, Gains, disable_command}
use Rattle.cil_session.proofs.reply.write_disables.Given as goal

abbrev pub invariant-loop-i : goal.invariant-loop-i
invariant-loop-i g l = record {
  counted : g.W.Sink.failures l.fn.sink ≤ g.W.Sink.failures l.sink;
  so_far : Gains (g.W.Sink.taken l.fn.sink) (g.W.Sink.taken l.sink) (flat_map disable_command (take l.i l.store.disabled));
}
