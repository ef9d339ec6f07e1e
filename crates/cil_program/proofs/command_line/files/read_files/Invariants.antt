use Rattle.std.proofs.Common.{◌≡◌, All, map, take}
use Rattle.cil_program.specs.CommandLine.{IsReadOf}
use Rattle.cil_program.proofs.command_line.files.read_files.Given as goal

abbrev pub invariant-loop-path : goal.invariant-loop-path
invariant-loop-path g l =
    (map (λ file. file.path.now) l.files.items ≡ map (λ path. path.now) (take l.path-index l.paths))
    × All (λ file. IsReadOf (g.F.TextFiles.content l.fn.from file.path.now) file.text.items) l.files.items
