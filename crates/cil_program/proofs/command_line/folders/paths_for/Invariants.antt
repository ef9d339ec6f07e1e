use Rattle.std.proofs.Common.{map, take}
use Rattle.std.specs.String.{string_bytes}
use Rattle.cil_program.specs.Given.{StandFor}
use Rattle.cil_program.proofs.command_line.folders.paths_for.Given as goal

abbrev pub invariant-loop-path : goal.invariant-loop-path
invariant-loop-path g l = StandFor (g.F.TextFiles.content l.fn.from) (map (λ path. path.now) (take l.path-index l.given)) (map string_bytes l.paths.items)
