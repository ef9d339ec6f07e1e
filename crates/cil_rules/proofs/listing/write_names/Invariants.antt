use Rattle.cil_rules.proofs.Common.{◌≤◌, take, flat_map, Gains, name_text}
use Rattle.cil_rules.proofs.listing.write_names.Given as goal

abbrev pub invariant-loop-number : goal.invariant-loop-number
invariant-loop-number g l = record {
  counted : g.W.Sink.failures l.fn.sink ≤ g.W.Sink.failures l.sink;
  so_far : Gains (g.W.Sink.taken l.fn.sink) (g.W.Sink.taken l.sink) (flat_map (name_text l.names) (take l.number-index l.numbers));
}
