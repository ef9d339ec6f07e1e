use Rattle.std.proofs.Common.{◌≤◌, take, flat_map}
use Rattle.cil_stream.specs.Device.{Gains}
use Rattle.cil_program.specs.Given.{same_name_line}
use Rattle.cil_program.proofs.command_line.same_names.write_same_names.Given as goal

abbrev pub invariant-loop-path : goal.invariant-loop-path
invariant-loop-path g l = record {
  counted : g.E.Sink.failures l.fn.err ≤ g.E.Sink.failures l.err;
  so_far : Gains (g.E.Sink.taken l.fn.err) (g.E.Sink.taken l.err) (flat_map (λ path. same_name_line path.now) (take l.path-index l.paths));
}
