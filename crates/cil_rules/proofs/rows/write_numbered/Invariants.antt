use Rattle.cil_rules.proofs.Common.{◌≤◌, take, flat_map, Gains, line_by}
use Rattle.cil_rules.proofs.rows.write_numbered.Given as goal

abbrev pub invariant-loop-row : goal.invariant-loop-row
invariant-loop-row g l = record {
  counted : g.W.Sink.failures l.fn.sink ≤ g.W.Sink.failures l.sink;
  so_far : Gains (g.W.Sink.taken l.fn.sink) (g.W.Sink.taken l.sink) (flat_map (line_by l.names l.permissions) (take l.row-index l.rows));
}
