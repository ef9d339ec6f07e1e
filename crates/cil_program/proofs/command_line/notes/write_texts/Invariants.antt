use Rattle.std.proofs.Common.{◌≤◌, take, flat_map}
use Rattle.cil_stream.specs.Device.{Gains}
use Rattle.cil_program.proofs.command_line.notes.write_texts.Given as goal

abbrev pub invariant-loop-file : goal.invariant-loop-file
invariant-loop-file g l = record {
  counted : g.W.Sink.failures l.fn.out ≤ g.W.Sink.failures l.out;
  so_far : Gains (g.W.Sink.taken l.fn.out) (g.W.Sink.taken l.out) (flat_map (λ file. file.text.items) (take l.file-index l.files));
}
