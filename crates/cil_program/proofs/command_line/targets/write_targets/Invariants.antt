use Rattle.std.proofs.Common.{All, take}
use Rattle.std.specs.Path.{path_buf_bytes}
use Rattle.cil_program.proofs.command_line.targets.write_targets.Given as goal

abbrev pub invariant-loop-target : goal.invariant-loop-target
invariant-loop-target g l = All (λ target. g.F.TextFiles.written l.to (path_buf_bytes target.path) target.text.now) (take l.target-index l.targets)
