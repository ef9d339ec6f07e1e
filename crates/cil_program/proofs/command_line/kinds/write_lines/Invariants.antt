use Rattle.std.proofs.Common.{◌≤◌, take, flat_map}
use Rattle.cil_stream.specs.Device.{Gains}
use Rattle.cil_program.specs.Kinds.{kind_in, kind_line}
use Rattle.cil_program.proofs.command_line.kinds.write_lines.Given as goal

abbrev pub invariant-loop-kind : goal.invariant-loop-kind
invariant-loop-kind g l = record {
  counted : g.W.Sink.failures l.fn.out ≤ g.W.Sink.failures l.out;
  so_far : Gains (g.W.Sink.taken l.fn.out) (g.W.Sink.taken l.out) (flat_map (λ kind. kind_line l.tally (kind_in kind)) (take l.kind-index l.kinds));
}
